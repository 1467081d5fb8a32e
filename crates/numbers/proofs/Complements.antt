-- Two's complement over the width: the bits of a number and the number of the bits are inverse, and so are a number's parts and the number. Each law is
-- over h, one less than the width, and serves 64-bit and 32-bit numbers alike.
use mathlib.Core.Path.{◌≡◌, sym, ap, ap₂, ◌∙◌}
use mathlib.Core.Bool.{Bool, cond}
use mathlib.Core.Logic.{⊎_elim}
use Prim.Native.Nat.{ℕ, ◌+◌, ◌-◌, ◌*◌, ◌/◌, ◌%◌, ◌^◌, ◌≤◌, ◌<◌}
use native.Mathlib.Nat.{mod-eq_of_lt, mod-lt, lt_of_lt_of_le}
use native.Mathlib.Omega.{arith}
use borrow.Author.Tests.{lt-ltb, le-ltb}
use lib.IntN.{ℤ, pos, negsuc, ◌-ℤ◌}
use lib.Signed.{mag}
use lib.Arith.{digits_lt}
use lib.Pow.{pow_pos, pow_mono, pow-add, high, low, recompose}
use Rattle.numbers.specs.declared.number.Number.{Number}
use Rattle.numbers.specs.Twos.{signed_at, bits_at}
use Rattle.numbers.specs.Number.{coefficient_at, exponent_at, split_at, joined_at}
use Rattle.numbers.proofs.Integers.{le_or_lt, double, minus_is, sub_ge, sub_lt}

-- ---- which half the bits lie in

pub signed_low : (h x : ℕ) → x < 2 ^ h → signed_at h x ≡ pos x
unfolding signed_at
signed_low h x p = ap (λ (t : Bool). cond t (pos x) (pos x -ℤ pos (2 ^ (h + 1)))) (lt-ltb x (2 ^ h) p)

pub signed_high : (h x : ℕ) → 2 ^ h ≤ x → x < 2 ^ (h + 1) → signed_at h x ≡ negsuc (2 ^ (h + 1) - 1 - x)
unfolding signed_at
signed_high h x p q =
    ap (λ (t : Bool). cond t (pos x) (pos x -ℤ pos (2 ^ (h + 1)))) (le-ltb x (2 ^ h) p)
    ∙ minus_is x (2 ^ (h + 1))
    ∙ sub_lt x (2 ^ (h + 1)) q
    ∙ ap negsuc (omega arith)

pub halves : {P : Type 0} (h x : ℕ) → (x < 2 ^ h → P) → (2 ^ h ≤ x → P) → P
halves h x f g = ⊎_elim g f (le_or_lt (2 ^ h) x)

-- as the code reads them: half the range p is added, without the carry, and taken off again
pub signed_raised : (h x p q : ℕ) → p ≡ 2 ^ h → q ≡ (x + p) % 2 ^ (h + 1) → x < 2 ^ (h + 1) → pos q -ℤ pos p ≡ signed_at h x
signed_raised h x p q ep eq l =
    let d = double h in
    let low_half : x < 2 ^ h → pos q -ℤ pos p ≡ signed_at h x =
    λ k. let e : q ≡ x + p = eq ∙ mod-eq_of_lt {n = x + p} {m = 2 ^ (h + 1)} (omega arith) in
    minus_is q p ∙ sub_ge q p (omega arith) ∙ ap pos (omega arith) ∙ sym (signed_low h x k) in
    let high_half : 2 ^ h ≤ x → pos q -ℤ pos p ≡ signed_at h x =
    λ k. let s : x + p ≡ 1 * 2 ^ (h + 1) + (x - p) = omega arith in
    let e : q ≡ x - p = eq ∙ ap (λ (n : ℕ). n % 2 ^ (h + 1)) s ∙ low 1 (h + 1) (omega arith) in
    minus_is q p ∙ sub_lt q p (omega arith) ∙ ap negsuc (omega arith) ∙ sym (signed_high h x k l) in
    halves h x low_half high_half

-- ---- bits and numbers

pub signed_mag : (h x : ℕ) → x < 2 ^ (h + 1) → mag (signed_at h x) < 2 ^ h
signed_mag h x p =
    let d = double h in
    halves h x (λ q. rw (signed_low h x q) q) (λ q. rw (signed_high h x q p) (omega arith))

pub bits_lt : (h : ℕ) (z : ℤ) → bits_at h z < 2 ^ (h + 1)
bits_lt h (pos n) = mod-lt n (pow_pos (h + 1))
bits_lt h (negsuc n) = let p = pow_pos (h + 1) in omega arith

pub bits_signed : (h x : ℕ) → x < 2 ^ (h + 1) → bits_at h (signed_at h x) ≡ x
bits_signed h x p =
    halves h x (λ q. rw (signed_low h x q) (mod-eq_of_lt p))
    (λ q. rw (signed_high h x q p, mod-eq_of_lt {n = 2 ^ (h + 1) - 1 - x} {m = 2 ^ (h + 1)} (omega arith)) (omega arith))

pub signed_bits : (h : ℕ) (z : ℤ) → mag z < 2 ^ h → signed_at h (bits_at h z) ≡ z
signed_bits h (pos n) p =
    let d = double h in
    rw (mod-eq_of_lt {n = n} {m = 2 ^ (h + 1)} (omega arith)) (signed_low h n p)
signed_bits h (negsuc n) p =
    let d = double h in
    rw (mod-eq_of_lt {n = n} {m = 2 ^ (h + 1)} (omega arith))
    (signed_high h (2 ^ (h + 1) - 1 - n) (omega arith) (omega arith) ∙ ap negsuc (omega arith))

-- ---- a number and its parts

-- what is put together is read back
pub coefficient_joined : (e h : ℕ) (n : Number) → mag n.coefficient < 2 ^ h → coefficient_at h (joined_at e h n) ≡ n.coefficient
unfolding coefficient_at joined_at
coefficient_joined e h n p =
    ap (signed_at h) (low (bits_at e n.exponent) (h + 1) (bits_lt h n.coefficient)) ∙ signed_bits h n.coefficient p

pub exponent_joined : (e h : ℕ) (n : Number) → mag n.exponent < 2 ^ e → exponent_at e h (joined_at e h n) ≡ n.exponent
unfolding exponent_at joined_at
exponent_joined e h n p =
    ap (λ (b : ℕ). signed_at e (b % 2 ^ (e + 1))) (high (bits_at e n.exponent) (h + 1) (bits_lt h n.coefficient))
    ∙ ap (signed_at e) (mod-eq_of_lt (bits_lt e n.exponent))
    ∙ signed_bits e n.exponent p

pub split_joined : (e h : ℕ) (n : Number) → mag n.exponent < 2 ^ e → mag n.coefficient < 2 ^ h → split_at e h (joined_at e h n) ≡ n
split_joined e h n p q = λ i. record { exponent = exponent_joined e h n p i; coefficient = coefficient_joined e h n q i }

-- what is read is put together to the same number
pub joined_split : (e h w : ℕ) → w < 2 ^ (e + 1 + (h + 1)) → joined_at e h (split_at e h w) ≡ w
unfolding coefficient_at exponent_at joined_at
joined_split e h w p =
    ap₂ (λ (x c : ℕ). x * 2 ^ (h + 1) + c)
    (bits_signed e (w / 2 ^ (h + 1) % 2 ^ (e + 1)) (mod-lt _ (pow_pos (e + 1))))
    (bits_signed h (w % 2 ^ (h + 1)) (mod-lt _ (pow_pos (h + 1))))
    ∙ recompose (e + 1) (h + 1) p

-- the parts that are read are in range, and a number that is put together is one of its width
pub coefficient_mag : (h w : ℕ) → mag (coefficient_at h w) < 2 ^ h
unfolding coefficient_at
coefficient_mag h w = signed_mag h (w % 2 ^ (h + 1)) (mod-lt _ (pow_pos (h + 1)))

pub exponent_mag : (e h w : ℕ) → mag (exponent_at e h w) < 2 ^ e
unfolding exponent_at
exponent_mag e h w = signed_mag e (w / 2 ^ (h + 1) % 2 ^ (e + 1)) (mod-lt _ (pow_pos (e + 1)))

pub coefficient_small : (h w : ℕ) → h < 48 → mag (coefficient_at h w) < 2 ^ 61
coefficient_small h w l = lt_of_lt_of_le (coefficient_mag h w) (pow_mono {i = h} {j = 61} (omega arith))

pub exponent_small : (e h w : ℕ) → e < 16 → mag (exponent_at e h w) < 2 ^ 61
exponent_small e h w l = lt_of_lt_of_le (exponent_mag e h w) (pow_mono {i = e} {j = 61} (omega arith))

pub joined_lt : (e h : ℕ) (n : Number) → joined_at e h n < 2 ^ (e + 1 + (h + 1))
unfolding joined_at
joined_lt e h n = rw (pow-add 2 (e + 1) (h + 1)) (digits_lt (bits_lt e n.exponent) (bits_lt h n.coefficient))
