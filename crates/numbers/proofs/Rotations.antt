-- Rotation and the right shift with sign, as shifts and masks make them. Each law is over the widths j and k of the two parts of a word.
use mathlib.Core.Path.{◌≡◌, sym, ap, ap₂, ◌∙◌}
use Prim.Native.Nat.{ℕ, ◌+◌, ◌-◌, ◌*◌, ◌/◌, ◌%◌, ◌^◌, ◌≤◌, ◌<◌}
use native.Mathlib.Nat.{add-zero, mod-eq_of_lt, div-eq_of_lt, mul-one, add_comm, div-le_self, lt_of_le_of_lt}
use native.Mathlib.Omega.{arith}
use lib.Bits.{bit_or, or_shifted}
use lib.Pow.{pow_pos, mod-pow-add, shl-shr, shr_lt, low}
use Rattle.numbers.specs.Shift.{rotated, moved_right}
use Rattle.numbers.proofs.Complements.{signed_low, signed_high}

-- the low j bits, moved up by k
shl_mod : (w j k : ℕ) → (w * 2 ^ k) % 2 ^ (j + k) ≡ (w % 2 ^ j) * 2 ^ k
shl_mod w j k =
    mod-pow-add (w * 2 ^ k) j k
    ∙ ap₂ (λ (a b : ℕ). (a % 2 ^ j) * 2 ^ k + b) (shl-shr w k) (ap (λ (n : ℕ). n % 2 ^ k) (sym (add-zero (w * 2 ^ k))) ∙ low w k (pow_pos k))
    ∙ add-zero _

-- the two parts of a word, exchanged, do not overlap
rotate_or : (w j k : ℕ) → w < 2 ^ (j + k) → bit_or ((w * 2 ^ k) % 2 ^ (j + k)) (w / 2 ^ j) ≡ (w * 2 ^ k) % 2 ^ (j + k) + w / 2 ^ j
rotate_or w j k h = rw (shl_mod w j k) (or_shifted (w % 2 ^ j) k (w / 2 ^ j) (shr_lt k j (rw add_comm at h)))

-- ---- at a word

pub rotated_zero : (w : ℕ) → w < 2 ^ 64 → rotated w 0 ≡ w
unfolding rotated
rotated_zero w h = ap₂ ◌+◌ (ap (λ (n : ℕ). n % 2 ^ 64) (mul-one w) ∙ mod-eq_of_lt h) (div-eq_of_lt h) ∙ add-zero w

pub rotated_or : (w k : ℕ) → k < 64 → w < 2 ^ 64 → bit_or ((w * 2 ^ k) % 2 ^ 64) (w / 2 ^ (64 - k)) ≡ rotated w k
unfolding rotated
rotated_or w k p h =
    let e : 64 - k + k ≡ 64 = omega arith in
    rw e at (rotate_or w (64 - k) k (rw e h))

pub moved_low : (w k : ℕ) → w < 2 ^ 63 → w / 2 ^ k ≡ moved_right w k
unfolding moved_right
moved_low w k h = rw (signed_low 63 w h) (sym (mod-eq_of_lt (lt_of_le_of_lt (div-le_self w (2 ^ k)) (omega arith))))

pub moved_high : (w k : ℕ) → 2 ^ 63 ≤ w → w < 2 ^ 64 → (2 ^ 64 - 1) - ((2 ^ 64 - 1) - w) / 2 ^ k ≡ moved_right w k
unfolding moved_right
moved_high w k l h =
    rw (signed_high 63 w l h)
    (ap (λ (n : ℕ). 2 ^ 64 - 1 - n) (sym (mod-eq_of_lt (lt_of_le_of_lt (div-le_self (2 ^ 64 - 1 - w) (2 ^ k)) (omega arith)))))
