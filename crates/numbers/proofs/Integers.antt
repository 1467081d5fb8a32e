-- Signed numbers as the code has them. ℤ is pos n, which is n, and negsuc n, which is -1 - n: so -1 - z swaps the two, and keeps `mag`.
use mathlib.Core.Path.{◌≡◌, refl, sym, ap, ◌∙◌, subst}
use mathlib.Core.Bool.{Bool, true, false, cond}
use mathlib.Core.Logic.{◌⊎◌, inl, inr, ⊎_elim}
use Prim.Native.Nat.{ℕ, zero, suc, ◌+◌, ◌-◌, ◌*◌, ◌%◌, ◌^◌, ◌≤◌, ◌<◌, zero-le, suc-le-suc}
use native.Mathlib.Nat.{zero-add, one-mul, mod-eq_of_lt, two-pow-succ}
use native.Mathlib.Numerals.{add-one}
use native.Mathlib.Omega.{arith}
use borrow.Author.Tests.{le-ltb, lt-ltb, ltb-true}
use lib.Dec.{T}
use lib.IntN.{ℤ, pos, negsuc, neg_ℤ, ◌-ℤ◌, sub_ℕ, nat_abs, +ℤ_idl}
use lib.Signed.{mag, lt_z, non_neg}
use lib.Pow.{pow_mono, pow-lt, pow_pos}
use mir.Syntax.{w64}
use mir.Val.{Fits, to_z, of_z}
use mir.Facts.{to_z-of_z}

pub le_or_lt : (a b : ℕ) → (a ≤ b) ⊎ (b < a)
le_or_lt zero b = inl zero-le
le_or_lt (suc a) zero = inr (suc-le-suc zero-le)
le_or_lt (suc a) (suc b) = ⊎_elim (λ p. inl (suc-le-suc p)) (λ q. inr (suc-le-suc q)) (le_or_lt a b)

-- ---- powers of two, for omega

pub double : (h : ℕ) → 2 ^ (h + 1) ≡ 2 ^ h + 2 ^ h
double h = rw (add-one h) (two-pow-succ h)

pub record Top (h : ℕ) : Type 0 where
  pub dbl : 2 ^ (h + 1) ≡ 2 ^ h + 2 ^ h
  pub small : 2 ^ h ≤ 2 ^ 47
  pub some : 0 < 2 ^ h

pub top : (h : ℕ) → h < 48 → Top h
top h p = record { dbl = double h; small = pow_mono {i = h} {j = 47} (omega arith); some = pow_pos h }

pub one_shl : (h : ℕ) → h < 64 → (1 * 2 ^ h) % 2 ^ 64 ≡ 2 ^ h
one_shl h p = ap (λ (x : ℕ). x % 2 ^ 64) (one-mul (2 ^ h)) ∙ mod-eq_of_lt (pow-lt p)

-- ---- a local of a signed type holds bits: what is read back of a number that fits is the number

pub back : (z : ℤ) → mag z < 2 ^ 63 → to_z w64 (of_z w64 z) ≡ z
back z h = to_z-of_z {w = w64} {z = z} (record { sfits = h })

-- ---- differences of natural numbers

pub sub_ge : (a b : ℕ) → b ≤ a → sub_ℕ a b ≡ pos (a - b)
sub_ge a b h = ap (λ (t : Bool). cond t (negsuc (b - suc a)) (pos (a - b))) (le-ltb a b h)

pub sub_lt : (a b : ℕ) → a < b → sub_ℕ a b ≡ negsuc (b - suc a)
sub_lt a b h = ap (λ (t : Bool). cond t (negsuc (b - suc a)) (pos (a - b))) (lt-ltb a b h)

pub minus_is : (a b : ℕ) → pos a -ℤ pos b ≡ sub_ℕ a b
minus_is a zero = ap pos (omega arith) ∙ sym (sub_ge a 0 zero-le)
minus_is a (suc b) = refl

pub mag_minus : (a b : ℕ) → mag (pos a -ℤ pos b) ≤ a + b
mag_minus a b =
    rw (minus_is a b) (⊎_elim (λ p. rw (sub_ge a b p) (omega arith)) (λ p. rw (sub_lt a b p) (omega arith)) (le_or_lt b a))

-- ---- -1 - z and -z

abbrev pub flip_z : ℤ → ℤ
flip_z (pos n) = negsuc n
flip_z (negsuc n) = pos n

pub flip_is : (z : ℤ) → negsuc 0 -ℤ z ≡ flip_z z
flip_is (pos zero) = refl
flip_is (pos (suc n)) = ap (λ (k : ℕ). negsuc (suc k)) (zero-add n)
flip_is (negsuc n) = sub_ge (suc n) 1 (omega arith) ∙ ap pos (omega arith)

pub mag_flip : (z : ℤ) → mag (flip_z z) ≡ mag z
mag_flip (pos n) = refl
mag_flip (negsuc n) = refl

pub zero_sub : (z : ℤ) → pos 0 -ℤ z ≡ neg_ℤ z
zero_sub z = +ℤ_idl (neg_ℤ z)

pub mag_neg : (z : ℤ) → mag (neg_ℤ z) ≤ suc (mag z)
mag_neg (pos zero) = omega arith
mag_neg (pos (suc n)) = omega arith
mag_neg (negsuc n) = omega arith

-- ---- what a test `z < 0` says

pub negative : (z : ℤ) → lt_z z (pos 0) ≡ true → z ≡ negsuc (mag z)
negative (pos n) e = let q : ⊥ = omega (arith, ltb-true n 0 e) in absurd q
negative (negsuc n) e = refl

pub natural : (z : ℤ) → lt_z z (pos 0) ≡ false → z ≡ pos (mag z)
natural (pos n) e = refl
natural (negsuc n) e = absurd (subst T e tt)

-- the same of a local that holds z
pub neg_true : (z : ℤ) → mag z < 2 ^ 63 → lt_z (to_z w64 (of_z w64 z)) (pos 0) ≡ true → z ≡ negsuc (mag z)
neg_true z h e = negative z (ap (λ (y : ℤ). lt_z y (pos 0)) (sym (back z h)) ∙ e)

pub neg_false : (z : ℤ) → mag z < 2 ^ 63 → lt_z (to_z w64 (of_z w64 z)) (pos 0) ≡ false → z ≡ pos (mag z)
neg_false z h e = natural z (ap (λ (y : ℤ). lt_z y (pos 0)) (sym (back z h)) ∙ e)

-- ---- the cast of a number that is not negative to a u64

pub natural_fits : (z : ℤ) (n : ℕ) → z ≡ pos n → n < 2 ^ 63 → T (non_neg (to_z w64 (of_z w64 z))) × Fits w64 (nat_abs (to_z w64 (of_z w64 z)))
natural_fits z n e h = rw (e, back (pos n) h) (tt, record { fits = omega arith })

pub natural_is : (z : ℤ) (n : ℕ) → z ≡ pos n → n < 2 ^ 63 → nat_abs (to_z w64 (of_z w64 z)) ≡ n
natural_is z n e h = rw (e, back (pos n) h)

-- -1 - z of a z below 0
pub flipped : (r z : ℤ) → r ≡ negsuc 0 -ℤ to_z w64 (of_z w64 z) → mag z < 2 ^ 63 → lt_z (to_z w64 (of_z w64 z)) (pos 0) ≡ true → r ≡ pos (mag z)
flipped r z e h t = e ∙ flip_is (to_z w64 (of_z w64 z)) ∙ ap flip_z (back z h ∙ neg_true z h t)

-- a test of a local that holds r is the test of the number that r is known to be
pub test_of : (test : ℤ → Bool) (r x : ℤ) (t : Bool) → to_z w64 (of_z w64 r) ≡ x → test (to_z w64 (of_z w64 r)) ≡ t → test x ≡ t
test_of test r x t s e = ap test (sym s) ∙ e

-- a number that is natural and small
pub is_natural : (x : ℤ) (n : ℕ) → x ≡ pos n → n < 2 ^ 62 → (x ≡ pos (mag x)) × (mag x < 2 ^ 62)
is_natural x n e l = rw e (refl, l)

-- k of a number -k
pub nat_abs_lem : (z : ℤ) → z ≡ negsuc (mag z) → nat_abs z ≡ mag z + 1
nat_abs_lem z e = ap nat_abs e ∙ sym (add-one (mag z))
