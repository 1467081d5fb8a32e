-- A choice without a branch: a gate that is 1 or 0, and all ones or none of a word.
use mathlib.Core.Path.{◌≡◌, refl, ap, ◌∙◌}
use mathlib.Core.Logic.{◌⊎◌, inl, inr, ⊎_elim}
use mathlib.Core.Bool.{cond}
use Prim.Native.Nat.{ℕ, zero, suc, ◌+◌, ◌-◌, ◌*◌, ◌/◌, ◌%◌, ◌^◌, ◌≤◌, ◌<◌}
use native.Mathlib.Nat.{mod-eq_of_lt}
use native.Mathlib.Omega.{arith}
use lib.Arith.{bin_ind}
use lib.Bits.{bit_and, bit_xor, differ, and_zero_r, and_mask, xor_zero_r, xor_step, xor_lt}
use lib.Dec.{eqb}
use Rattle.instructions.specs.Private.Loops.{Gate}

two : (g : ℕ) → g < 2 → (g ≡ 0) ⊎ (g ≡ 1)
two zero h = inl refl
two (suc g) h = inr (omega arith)

pub opened : (b s : ℕ) → b < 2 → s < 2 → Gate (bit_xor b (1 - s)) b s
opened b s hb hs =
    ⊎_elim
    (λ (e : b ≡ 0). ⊎_elim (λ (f : s ≡ 0). rw (e, f) zeros) (λ (f : s ≡ 1). rw (e, f) one) (two s hs))
    (λ (e : b ≡ 1). ⊎_elim (λ (f : s ≡ 0). rw (e, f) other) (λ (f : s ≡ 1). rw (e, f) ones) (two s hs))
    (two b hb)
  where
    zeros : Gate (bit_xor 0 (1 - 0)) 0 0
    zeros = record { a_bit = omega arith; tells = refl }

    one : Gate (bit_xor 0 (1 - 1)) 0 1
    one = record { a_bit = omega arith; tells = refl }

    other : Gate (bit_xor 1 (1 - 0)) 1 0
    other = record { a_bit = omega arith; tells = refl }

    ones : Gate (bit_xor 1 (1 - 1)) 1 1
    ones = record { a_bit = omega arith; tells = refl }

pub sense_is : (s : ℕ) → s < 2 → cond (eqb s 1) 1 0 ≡ s
sense_is s h = ⊎_elim (λ (e : s ≡ 0). rw e) (λ (e : s ≡ 1). rw e) (two s h)

pub small : (g : ℕ) → g < 2 → g * 0xFFFF_FFFF_FFFF_FFFF ≤ 0xFFFF_FFFF_FFFF_FFFF
small g h = ⊎_elim (λ (e : g ≡ 0). rw e (omega arith)) (λ (e : g ≡ 1). rw e (omega arith)) (two g h)

-- a number's bits, exchanged twice
twice : (x y : ℕ) → x < 2 → y < 2 → differ x (differ x y) ≡ y
twice zero y hx hy = refl
twice (suc zero) zero hx hy = refl
twice (suc zero) (suc zero) hx hy = refl
twice (suc zero) (suc (suc y)) hx hy = absurd (omega arith)
twice (suc (suc x)) y hx hy = absurd (omega arith)

cancels : (a b : ℕ) → bit_xor a (bit_xor a b) ≡ b
cancels =
    bin_ind (λ (n : ℕ). (b : ℕ) → bit_xor n (bit_xor n b) ≡ b) (λ b. refl)
    (λ n ih b.
    let s : bit_xor n b ≡ bit_xor (n / 2) (b / 2) * 2 + differ (n % 2) (b % 2) = xor_step n b in
    let d : differ (n % 2) (b % 2) < 2 = differ_lt (n % 2) (b % 2) (omega arith) (omega arith) in
    let high : bit_xor n b / 2 ≡ bit_xor (n / 2) (b / 2) = omega arith in
    let low : bit_xor n b % 2 ≡ differ (n % 2) (b % 2) = omega arith in
    let t : differ (n % 2) (differ (n % 2) (b % 2)) ≡ b % 2 = twice (n % 2) (b % 2) (omega arith) (omega arith) in
    xor_step n (bit_xor n b) ∙ rw (high, low, ih (b / 2), t) (omega arith))
  where
    differ_lt : (x y : ℕ) → x < 2 → y < 2 → differ x y < 2
    differ_lt zero y hx hy = hy
    differ_lt (suc zero) zero hx hy = omega arith
    differ_lt (suc zero) (suc y) hx hy = omega arith
    differ_lt (suc (suc x)) y hx hy = absurd (omega arith)

pub chosen : (g new old : ℕ) → g < 2 → new < 2 ^ 64 → old < 2 ^ 64 → bit_xor old (bit_and (bit_xor old new) (g * 0xFFFF_FFFF_FFFF_FFFF)) ≡ cond (eqb g 1) new old
chosen g new old h hn ho =
    ⊎_elim
    (λ (e : g ≡ 0). rw e (ap (bit_xor old) (and_zero_r (bit_xor old new)) ∙ xor_zero_r old))
    (λ (e : g ≡ 1). rw e (ap (bit_xor old) (and_mask (bit_xor old new) 64 ∙ mod-eq_of_lt (xor_lt 64 old new ho hn)) ∙ cancels old new))
    (two g h)
