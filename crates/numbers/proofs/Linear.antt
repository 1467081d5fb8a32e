-- Linear facts of signed numbers, for omega, which does not read ℤ. `raised z` is z + 2 ^ 62, a natural number for each z of a magnitude below 2 ^ 62:
-- a sum, an order or a bound of such numbers is one of their `raised`s, and at a literal `raised` computes.
use mathlib.Core.Path.{◌≡◌, sym, subst}
use mathlib.Core.Bool.{true, false}
use mathlib.Core.Logic.{⊎_elim}
use Prim.Native.Nat.{ℕ, suc, ◌+◌, ◌-◌, ◌^◌, ◌≤◌, ◌<◌}
use native.Mathlib.Omega.{arith}
use borrow.Author.Tests.{leb-true, leb-false}
use lib.Dec.{T}
use lib.IntN.{ℤ, pos, negsuc, ◌+ℤ◌, sub_ℕ}
use lib.Signed.{mag, le_z}
use Rattle.numbers.proofs.Integers.{le_or_lt, sub_ge, sub_lt}

abbrev pub raised : ℤ → ℕ
raised (pos n) = 2 ^ 62 + n
raised (negsuc n) = 2 ^ 62 - suc n

raised_sub : (a b : ℕ) → b < 2 ^ 62 → raised (sub_ℕ a b) + b ≡ 2 ^ 62 + a
raised_sub a b h =
    ⊎_elim (λ p. rw (sub_ge a b p) (omega arith)) (λ p. rw (sub_lt a b p) (omega arith)) (le_or_lt b a)

pub raised_add : (x y : ℤ) → mag x < 2 ^ 61 → mag y < 2 ^ 61 → raised (x +ℤ y) + 2 ^ 62 ≡ raised x + raised y
raised_add (pos a) (pos b) p q = omega arith
raised_add (pos a) (negsuc b) p q = omega (arith, raised_sub a (suc b) (omega arith))
raised_add (negsuc a) (pos b) p q = omega (arith, raised_sub b (suc a) (omega arith))
raised_add (negsuc a) (negsuc b) p q = omega arith

-- a test x <= y that held, and one that failed
pub raised_le : (x y : ℤ) → le_z x y ≡ true → raised x ≤ raised y
raised_le (pos a) (pos b) e = omega (arith, leb-true a b e)
raised_le (pos a) (negsuc b) e = absurd (subst T (sym e) tt)
raised_le (negsuc a) (pos b) e = omega arith
raised_le (negsuc a) (negsuc b) e = omega (arith, leb-true b a e)

pub raised_gt : (x y : ℤ) → mag x < 2 ^ 61 → le_z x y ≡ false → raised y < raised x
raised_gt (pos a) (pos b) p e = omega (arith, leb-false a b e)
raised_gt (pos a) (negsuc b) p e = omega arith
raised_gt (negsuc a) (pos b) p e = absurd (subst T e tt)
raised_gt (negsuc a) (negsuc b) p e = omega (arith, leb-false b a e)

-- -m ≤ z < m
pub record Within (z : ℤ) (m : ℕ) : Type 0 where
  pub above : 2 ^ 62 ≤ raised z + m
  pub below : raised z < 2 ^ 62 + m

pub within : (z : ℤ) (m : ℕ) → mag z < m → Within z m
within (pos n) m h = record { above = omega arith; below = omega arith }
within (negsuc n) m h = record { above = omega arith; below = omega arith }

pub mag_raised : (z : ℤ) (m : ℕ) → mag z < 2 ^ 62 → 2 ^ 62 ≤ raised z + m → raised z < 2 ^ 62 + m → mag z < m
mag_raised (pos n) m b p q = omega arith
mag_raised (negsuc n) m b p q = omega arith

mag_sub : (a b : ℕ) → mag (sub_ℕ a (suc b)) ≤ a + b
mag_sub a b =
    ⊎_elim (λ p. rw (sub_ge a (suc b) p) (omega arith)) (λ p. rw (sub_lt a (suc b) p) (omega arith)) (le_or_lt (suc b) a)

pub mag_add : (x y : ℤ) → mag (x +ℤ y) ≤ mag x + mag y + 1
mag_add (pos a) (pos b) = omega arith
mag_add (pos a) (negsuc b) = omega (arith, mag_sub a b)
mag_add (negsuc a) (pos b) = omega (arith, mag_sub b a)
mag_add (negsuc a) (negsuc b) = omega arith
