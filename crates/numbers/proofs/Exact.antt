-- What the results of truncate, floor, ceiling and contract hold: no bit of a quotient or of an exponent is lost when they are put together.
use mathlib.Core.Path.{◌≡◌, refl}
use mathlib.Core.Bool.{Bool, true, false, cond}
use Prim.Native.Nat.{ℕ, ◌^◌, ◌≤◌, ◌<◌}
use native.Mathlib.Nat.{lt_of_le_of_lt}
use native.Mathlib.Omega.{arith}
use lib.Dec.{lit<, lit≤}
use lib.IntN.{ℤ, pos, negsuc, nat_abs, ◌+ℤ◌}
use lib.Pow.{pow_pos}
use lib.Signed.{mag, le_z}
use Rattle.numbers.specs.declared.division.Rounding.{Rounding}
use Rattle.numbers.specs.declared.number.Number.{Number}
use Rattle.numbers.specs.Number.{coefficient_at, exponent_at, split_at, joined_at}
use Rattle.numbers.specs.Quotient.{down, quotient}
use Rattle.numbers.specs.Whole.{brought_to_zero}
use Rattle.numbers.specs.Contract.{addend, places}
use Rattle.numbers.proofs.Linear.{raised, raised_add, raised_le, raised_gt, mag_add, mag_raised, within}
use Rattle.numbers.proofs.Complements.{coefficient_mag, exponent_mag, split_joined}
use Rattle.numbers.proofs.Quotients.{mag_quotient, mag_down_lt}

-- 70, 71, 72 below exponent 0, at every width: the parts of the result are exponent 0 and the quotient
pub whole_exact :
    (e h : ℕ) (how : Rounding) (w : ℕ) →
    split_at e h (brought_to_zero e h how (split_at e h w))
    ≡ record { exponent = pos 0; coefficient = quotient how (coefficient_at h w) (2 ^ nat_abs (exponent_at e h w)) }
unfolding brought_to_zero
whole_exact e h how w =
    split_joined e h
    (record { exponent = pos 0; coefficient = quotient how (coefficient_at h w) (2 ^ nat_abs (exponent_at e h w)) })
    (pow_pos e)
    (lt_of_le_of_lt (mag_quotient how (coefficient_at h w) (2 ^ nat_abs (exponent_at e h w))) (coefficient_mag h w))

-- 76, 77: what is added first is small, and not negative
addend_small : (rounded : Bool) → (mag (addend rounded) ≤ 2 ^ 23) × (2 ^ 62 ≤ raised (addend rounded))
addend_small true = (lit≤ tt, lit≤ tt)
addend_small false = (lit≤ tt, lit≤ tt)

-- 76, 77: moved by its places, the sum fits a coefficient of 24 bits
coefficient_fits : (c : ℤ) (rounded : Bool) → mag c < 2 ^ 47 → mag (down (c +ℤ addend rounded) (2 ^ places (c +ℤ addend rounded))) < 2 ^ 23
coefficient_fits c rounded m = go (le_z (pos (2 ^ 47)) s) refl
  where
    s : ℤ
    s = c +ℤ addend rounded

    small : mag s < 2 ^ 48
    small = omega (arith, mag_add c (addend rounded), addend_small rounded)

    below : le_z (pos (2 ^ 47)) s ≡ false → mag s < 2 ^ 47
    below e =
        let a = addend_small rounded in
        let l = small in
        let t = raised_add c (addend rounded) (omega arith) (omega arith) in
        let w = within c (2 ^ 47) m in
        let q = raised_gt (pos (2 ^ 47)) s (lit< tt) e in
        mag_raised s (2 ^ 47) (omega arith) (omega arith) (omega arith)

    go : (b : Bool) → le_z (pos (2 ^ 47)) s ≡ b → mag (down s (2 ^ cond b 25 24)) < 2 ^ 23
    go true e = mag_down_lt 23 25 s small
    go false e = mag_down_lt 23 24 s (below e)

-- 76, 77: from FF78 on, and below 70 after it has grown by 24 or 25, the exponent fits 8 bits
exponent_fits :
    (x : ℤ) (g : ℕ) → 24 ≤ g → g ≤ 25 → mag x < 2 ^ 15 → le_z (negsuc 0x87) x ≡ true → le_z (pos 0x70) (x +ℤ pos g) ≡ false →
    mag (x +ℤ pos g) < 2 ^ 7
exponent_fits x g l h m a b =
    let t = raised_add x (pos g) (omega arith) (omega arith) in
    let s = mag_add x (pos g) in
    let p = raised_le (negsuc 0x87) x a in
    let q = raised_gt (pos 0x70) (x +ℤ pos g) (lit< tt) b in
    mag_raised (x +ℤ pos g) (2 ^ 7) (omega arith) (omega arith) (omega arith)

places_range : (s : ℤ) → (24 ≤ places s) × (places s ≤ 25)
places_range s = go (le_z (pos (2 ^ 47)) s)
  where
    go : (b : Bool) → (24 ≤ cond b 25 24) × (cond b 25 24 ≤ 25)
    go true = (lit≤ tt, lit≤ tt)
    go false = (lit≤ tt, lit≤ tt)

-- 76, 77 in the range that is narrowed: the parts of the result are the exponent grown by g and the sum over 2^g, rounded down
pub contract_exact :
    (rounded : Bool) (w : ℕ) →
    (let x = exponent_at 15 47 w in
    let s = coefficient_at 47 w +ℤ addend rounded in
    let n : Number = record { exponent = x +ℤ pos (places s); coefficient = down s (2 ^ places s) } in
    le_z (negsuc 0x87) x ≡ true → le_z (pos 0x70) (x +ℤ pos (places s)) ≡ false → split_at 7 23 (joined_at 7 23 n) ≡ n)
contract_exact rounded w a b =
    let s = coefficient_at 47 w +ℤ addend rounded in
    split_joined 7 23 _
    (exponent_fits (exponent_at 15 47 w) (places s) (places_range s).0 (places_range s).1 (exponent_mag 15 47 w) a b)
    (coefficient_fits (coefficient_at 47 w) rounded (coefficient_mag 47 w))
