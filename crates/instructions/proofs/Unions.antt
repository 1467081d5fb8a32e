-- Flags that are united with flags: what is among the three stays among them.
use mathlib.Core.Path.{◌≡◌, sym, ap, ap₂, ◌∙◌}
use Prim.Native.Nat.{ℕ, zero, suc, ◌+◌, ◌*◌, ◌/◌, ◌%◌, ◌^◌, ◌<◌, max}
use native.Mathlib.Nat.{mod-lt, two-pow-succ}
use native.Mathlib.Omega.{arith}
use lib.Bits.{bit_or, or_step, or_add_and, and_le_r}
use lib.Dec.{lit<}
use Rattle.numbers.specs.Flags.{all_flags}
use Rattle.numbers.proofs.Raised.{Among}

-- the right bit of a union
or_odd : (a b : ℕ) → bit_or a b % 2 ≡ max (a % 2) (b % 2)
or_odd a b =
    let e = or_step a b in
    let p = mod-lt a {m = 2} (lit< tt) in
    let q = mod-lt b {m = 2} (lit< tt) in
    omega arith

or_half : (a b : ℕ) → bit_or a b / 2 ≡ bit_or (a / 2) (b / 2)
or_half a b =
    let e = or_step a b in
    let p = mod-lt a {m = 2} (lit< tt) in
    let q = mod-lt b {m = 2} (lit< tt) in
    omega arith

-- a union of three, either way round, of numbers of k bits
pub or_assoc : (k a b c : ℕ) → a < 2 ^ k → b < 2 ^ k → c < 2 ^ k → bit_or (bit_or a b) c ≡ bit_or a (bit_or b c)
or_assoc zero a b c p q r =
    let x : a ≡ 0 = omega arith in
    let y : b ≡ 0 = omega arith in
    let z : c ≡ 0 = omega arith in
    rw (x, y, z)
or_assoc (suc k) a b c p q r =
    let t = two-pow-succ k in
    let ih = or_assoc k (a / 2) (b / 2) (c / 2) (omega arith) (omega arith) (omega arith) in
    or_step (bit_or a b) c
    ∙ ap₂ (λ (x y : ℕ). x * 2 + y) (ap (λ (x : ℕ). bit_or x (c / 2)) (or_half a b) ∙ ih ∙ ap (bit_or (a / 2)) (sym (or_half b c))) (ap (λ (x : ℕ). max x (c % 2)) (or_odd a b) ∙ assoc (a % 2) (b % 2) (c % 2) ∙ ap (max (a % 2)) (sym (or_odd b c)))
    ∙ sym (or_step a (bit_or b c))
  where
    assoc : (x y z : ℕ) → max (max x y) z ≡ max x (max y z)
    assoc x y z = omega arith

-- flags among the three are small
among_small : (f : ℕ) → Among f → f < 2 ^ 22
among_small f h = let e = or_add_and f all_flags in let l = and_le_r f all_flags in omega arith

pub or_among : (f g : ℕ) → Among f → Among g → Among (bit_or f g)
or_among f g p q = or_assoc 22 f g all_flags (among_small f p) (among_small g q) (lit< tt) ∙ ap (bit_or f) q ∙ p
