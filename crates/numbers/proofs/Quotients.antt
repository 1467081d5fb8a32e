-- The three roundings of a quotient: what each means, how large it is, and how it follows from a quotient of natural numbers.
use mathlib.Core.Path.{◌≡◌, refl, sym, ap, ◌∙◌}
use Prim.Native.Nat.{ℕ, zero, suc, ◌+◌, ◌-◌, ◌*◌, ◌/◌, ◌%◌, ◌^◌, ◌≤◌, ◌<◌, zero-le}
use native.Mathlib.Nat.{div-le_self, div-eq_of_lt, div-add-mod', le_of_suc-le-suc, lt_of_lt_of_le, mod-lt, not-suc-le-zero, suc-mul}
use native.Mathlib.Omega.{arith}
use lib.IntN.{ℤ, pos, negsuc, neg_ℤ, neg_ℤ-neg_ℤ, ◌+ℤ◌, ◌*ℤ◌}
use lib.Signed.{mag, quot_z}
use lib.Pow.{pow_mono, shr_lt}
use Rattle.numbers.specs.declared.division.Rounding.{Rounding}
use Rattle.numbers.specs.declared.division.Rounding.TheVariants.{Zero, Down, Up}
use Rattle.numbers.specs.Quotient.{toward_zero, down, up, quotient}
use Rattle.numbers.proofs.Integers.{sub_lt, flip_z}

-- ---- what the three mean

neg_pos : (m : ℕ) → 0 < m → neg_ℤ (pos m) ≡ negsuc (m - 1)
neg_pos zero h = absurd (not-suc-le-zero h)
neg_pos (suc m) h = ap negsuc (omega arith)

-- down: z = q d + r with 0 <= r < d
pub down_is : (z : ℤ) (d : ℕ) → 0 < d → (r : ℕ) × (r < d) × (z ≡ down z d *ℤ pos d +ℤ pos r)
down_is (pos n) d h = (n % d, mod-lt n h, ap pos (sym (div-add-mod' n d)))
down_is (negsuc n) d h =
    let s = n % d in
    let q = n / d in
    let l : s < d = mod-lt n h in
    let e : q * d + s ≡ n = div-add-mod' n d in
    let m : suc q * d ≡ q * d + d = suc-mul q d in
    let p : neg_ℤ (pos (suc q * d)) ≡ negsuc (suc q * d - 1) = neg_pos (suc q * d) (omega arith) in (
      d - suc s,
      omega arith,
      sym (ap (λ (y : ℤ). y +ℤ pos (d - suc s)) p
          ∙ sub_lt (d - suc s) (suc (suc q * d - 1)) (omega arith)
          ∙ ap negsuc (omega arith)),
    )

-- up: -z = (-q) d + r, so z = q d - r, with 0 <= r < d
pub up_is : (z : ℤ) (d : ℕ) → 0 < d → (r : ℕ) × (r < d) × (neg_ℤ z ≡ neg_ℤ (up z d) *ℤ pos d +ℤ pos r)
up_is z d h = rw neg_ℤ-neg_ℤ (down_is (neg_ℤ z) d h)

-- toward zero: down at and above zero, up below it
pub toward_zero_above : (n d : ℕ) → toward_zero (pos n) d ≡ down (pos n) d
toward_zero_above n d = refl

pub toward_zero_below : (n d : ℕ) → toward_zero (negsuc n) d ≡ up (negsuc n) d
toward_zero_below n d = refl

-- the three are three: at -3 / 2 down is not toward zero, at 3 / 2 up is not
pub down_not_toward_zero : (r : ℤ) → r ≡ down (negsuc 2) 2 → r ≡ toward_zero (negsuc 2) 2 → ⊥
down_not_toward_zero r p q = let e : ◌≡◌ {A = ℕ} 1 0 = ap mag (sym p ∙ q) in omega arith

pub up_not_toward_zero : (r : ℤ) → r ≡ up (pos 3) 2 → r ≡ toward_zero (pos 3) 2 → ⊥
up_not_toward_zero r p q = let e : ◌≡◌ {A = ℕ} 2 1 = ap mag (sym p ∙ q) in omega arith

-- ---- how large they are

mag_neg_pos : (r : ℕ) {a : ℕ} → r ≤ suc a → mag (neg_ℤ (pos r)) ≤ a
mag_neg_pos zero h = zero-le
mag_neg_pos (suc r) h = le_of_suc-le-suc h

mag_toward_zero : (z : ℤ) (d : ℕ) → mag (toward_zero z d) ≤ mag z
mag_toward_zero (pos n) d = div-le_self n d
mag_toward_zero (negsuc n) d = mag_neg_pos (suc n / d) (div-le_self (suc n) d)

pub mag_down : (z : ℤ) (d : ℕ) → mag (down z d) ≤ mag z
mag_down (pos n) d = div-le_self n d
mag_down (negsuc n) d = div-le_self n d

mag_up : (z : ℤ) (d : ℕ) → mag (up z d) ≤ mag z
mag_up (pos zero) d = mag_neg_pos (0 / d) (omega (arith, div-le_self 0 d))
mag_up (pos (suc n)) d = omega (arith, div-le_self n d)
mag_up (negsuc n) d = mag_neg_pos (suc n / d) (div-le_self (suc n) d)

pub mag_quotient : (how : Rounding) (z : ℤ) (d : ℕ) → mag (quotient how z d) ≤ mag z
mag_quotient Zero z d = mag_toward_zero z d
mag_quotient Down z d = mag_down z d
mag_quotient Up z d = mag_up z d

-- j bits are left of j + k
pub mag_down_lt : (j k : ℕ) (z : ℤ) → mag z < 2 ^ (j + k) → mag (down z (2 ^ k)) < 2 ^ j
mag_down_lt j k (pos n) p = shr_lt j k p
mag_down_lt j k (negsuc n) p = shr_lt j k p

-- ---- by a quotient of natural numbers

-- past the width nothing is left
pub far : (n k : ℕ) → n < 2 ^ 62 → 62 ≤ k → n / 2 ^ 62 ≡ n / 2 ^ k
far n k p q = div-eq_of_lt p ∙ sym (div-eq_of_lt (lt_of_lt_of_le p (pow_mono q)))

pub mag_share : (n d : ℕ) → n / d ≤ n
mag_share n d = div-le_self n d

pub share_of : (z : ℤ) (d : ℕ) → z ≡ pos (mag z) → quot_z z (pos d) ≡ pos (mag z / d)
share_of z d e = ap (λ (y : ℤ). quot_z y (pos d)) e

pub down_below : (z : ℤ) (d : ℕ) → z ≡ negsuc (mag z) → down z d ≡ flip_z (pos (mag z / d))
down_below z d e = ap (λ (y : ℤ). down y d) e

pub down_above : (z : ℤ) (d : ℕ) → z ≡ pos (mag z) → down z d ≡ pos (mag z / d)
down_above z d e = ap (λ (y : ℤ). down y d) e

pub zero_below : (z : ℤ) (d : ℕ) → z ≡ negsuc (mag z) → toward_zero z d ≡ neg_ℤ (pos (mag (neg_ℤ z) / d))
zero_below z d e = ap (λ (y : ℤ). toward_zero y d) e ∙ sym (ap (λ (y : ℤ). neg_ℤ (pos (mag (neg_ℤ y) / d))) e)

pub zero_above : (z : ℤ) (d : ℕ) → z ≡ pos (mag z) → toward_zero z d ≡ pos (mag z / d)
zero_above z d e = ap (λ (y : ℤ). toward_zero y d) e
