-- All bytes of a word are tested at once: a sum of bytes of seven bits carries into no neighbour, so what is done to a number is done to each of its bytes.
-- One byte is tried at all its 256 values.
use mathlib.Core.Path.{◌≡◌, refl, sym, ap, ap₂, subst, ◌∙◌}
use mathlib.Core.Bool.{Bool, true, false, not, cond, ◌&&◌, ◌||◌}
use Prim.Native.Nat.{ℕ, zero, suc, ◌+◌, ◌*◌, ◌/◌, ◌%◌, ◌^◌, ◌<◌}
use native.Mathlib.Nat.{add-zero, zero-add, add-suc, suc-add, div-one, le_of_suc-le-suc, not-suc-le-zero}
use native.Mathlib.Omega.{arith}
use lib.Bits.{bit_and, bit_or, and_zero_r, and_le_r, and_block, or_block, or_lt, and_shr, and_mod}
use lib.Dec.{T, eqb, eqb→eq}
use lib.Pow.{shr-shr}
use borrow.Author.Tests.{eqb-true, eqb-false, eq-eqb, ne_eqb}
use Rattle.instructions.proofs.Conjunctions.{and_first, and_rest}
use Rattle.instructions.specs.Words.{missing}

-- k bytes v
repeated : ℕ → ℕ → ℕ
repeated v zero = 0
repeated v (suc k) = repeated v k * 256 + v

filled_in : ℕ → ℕ → ℕ
filled_in k x = bit_and (bit_or (bit_and x (repeated 0x7F k) + repeated 0x7F k) x) (repeated 0x80 k)

filled_byte : ℕ → ℕ
filled_byte b = bit_and (bit_or (bit_and b 0x7F + 0x7F) b) 0x80

block : (k a b : ℕ) → b < 256 → filled_in (suc k) (a * 256 + b) ≡ filled_in k a * 256 + filled_byte b
unfolding repeated filled_in filled_byte
block k a b h =
    let m : ℕ = repeated 0x7F k in
    let s : ℕ = bit_and b 0x7F + 0x7F in
    let hs : s < 2 ^ 8 = omega (arith, and_le_r b 0x7F) in
    let e : bit_and (a * 256 + b) (m * 256 + 0x7F) + (m * 256 + 0x7F) ≡ (bit_and a m + m) * 256 + s = omega (arith, and_block 8 a m b 0x7F h (omega arith)) in
    ap (λ (y : ℕ). bit_and (bit_or y (a * 256 + b)) (repeated 0x80 k * 256 + 0x80)) e
    ∙ ap (λ (y : ℕ). bit_and y (repeated 0x80 k * 256 + 0x80)) (or_block 8 (bit_and a m + m) a s b hs h)
    ∙ and_block 8 (bit_or (bit_and a m + m) a) (repeated 0x80 k) (bit_or s b) 0x80 (or_lt 8 s b hs h) (omega arith)

step : (k x : ℕ) → filled_in (suc k) x ≡ filled_in k (x / 2 ^ 8) * 256 + filled_byte (x % 2 ^ 8)
step k x =
    let e : x ≡ x / 256 * 256 + x % 256 = omega arith in
    ap (filled_in (suc k)) e ∙ block k (x / 256) (x % 256) (omega arith)

-- ---- one byte

-- the test f passes at i and the n - 1 numbers after it
every : (ℕ → Bool) → ℕ → ℕ → Bool
every f i zero = true
every f i (suc n) = f i && every f (suc i) n

from : (f : ℕ → Bool) (n i : ℕ) → T (every f i n) → (k : ℕ) → k < n → T (f (i + k))
unfolding every
from f zero i t k h = absurd (not-suc-le-zero h)
from f (suc n) i t zero h = subst (λ (m : ℕ). T (f m)) (sym (add-zero i)) (and_first (f i) (every f (suc i) n) t)
from f (suc n) i t (suc k) h =
    subst (λ (m : ℕ). T (f m)) (suc-add i k ∙ sym (add-suc i k)) (from f n (suc i) (and_rest (f i) (every f (suc i) n) t) k (le_of_suc-le-suc h))

tried : ℕ → Bool
tried b = eqb (filled_byte b) (cond (eqb b 0) 0 0x80)

byte_is : (b : ℕ) → b < 256 → filled_byte b ≡ cond (eqb b 0) 0 0x80
unfolding every tried filled_byte
byte_is b h = eqb→eq (filled_byte b) (cond (eqb b 0) 0 0x80) (subst (λ (m : ℕ). T (tried m)) (zero-add b) (from tried 256 0 tt b h))

missing_byte : ℕ → ℕ → Bool
missing_byte m d = not (eqb m 0) && eqb (bit_and d m) 0

byte_missing : (m d : ℕ) → m < 256 → not (eqb (filled_byte (bit_and d m)) (filled_byte m)) ≡ missing_byte m d
unfolding missing_byte
byte_missing m d h =
    let e : filled_byte (bit_and d m) ≡ cond (eqb (bit_and d m) 0) 0 0x80 = byte_is (bit_and d m) (omega (arith, and_le_r d m)) in
    rw (e, byte_is m h) (go (eqb m 0) refl)
  where
    none : eqb m 0 ≡ true → eqb (bit_and d m) 0 ≡ true
    none t = eq-eqb (bit_and d m) 0 (ap (bit_and d) (eqb-true m 0 t) ∙ and_zero_r d)

    some : (z : Bool) → not (eqb (cond z 0 0x80) 0x80) ≡ z
    some true = refl
    some false = refl

    go : (b : Bool) → eqb m 0 ≡ b → not (eqb (cond (eqb (bit_and d m) 0) 0 0x80) (cond (eqb m 0) 0 0x80)) ≡ (not (eqb m 0) && eqb (bit_and d m) 0)
    go true t = rw (none t, t)
    go false t = rw t (some (eqb (bit_and d m) 0))

-- ---- all bytes

eqb_digits : (p q u v : ℕ) → u < 256 → v < 256 → eqb (p * 256 + u) (q * 256 + v) ≡ (eqb p q && eqb u v)
eqb_digits p q u v hu hv = go (eqb p q) (eqb u v) refl refl
  where
    go : (a b : Bool) → eqb p q ≡ a → eqb u v ≡ b → eqb (p * 256 + u) (q * 256 + v) ≡ (a && b)
    go true true s t = eq-eqb _ _ (ap₂ (λ (x y : ℕ). x * 256 + y) (eqb-true p q s) (eqb-true u v t))
    go true false s t = ne_eqb _ _ (λ (e : p * 256 + u ≡ q * 256 + v). eqb-false u v t (let i : p ≡ q = eqb-true p q s in omega arith))
    go false b s t = ne_eqb _ _ (λ (e : p * 256 + u ≡ q * 256 + v). eqb-false p q s (omega arith))

not_and : (a b : Bool) → not (a && b) ≡ (not a || not b)
not_and true b = refl
not_and false b = refl

-- of k bytes, from bit s on counted from the right
missing_in : ℕ → ℕ → ℕ → ℕ → Bool
missing_in zero s n w = false
missing_in (suc k) s n w = missing_in k (s + 8) n w || missing_byte (n / 2 ^ s % 2 ^ 8) (w / 2 ^ s % 2 ^ 8)

filled_byte_lt : (b : ℕ) → filled_byte b < 256
unfolding filled_byte
filled_byte_lt b = omega (arith, and_le_r (bit_or (bit_and b 0x7F + 0x7F) b) 0x80)

none_filled : (x : ℕ) → filled_in 0 x ≡ 0
unfolding repeated filled_in
none_filled x = and_zero_r (bit_or (bit_and x 0 + 0) x)

all_missing : (k s n w : ℕ) → not (eqb (filled_in k (bit_and (w / 2 ^ s) (n / 2 ^ s))) (filled_in k (n / 2 ^ s))) ≡ missing_in k s n w
unfolding missing_in
all_missing zero s n w = ap₂ (λ (p q : ℕ). not (eqb p q)) (none_filled (bit_and (w / 2 ^ s) (n / 2 ^ s))) (none_filled (n / 2 ^ s))
all_missing (suc k) s n w =
    let x : ℕ = w / 2 ^ s in
    let y : ℕ = n / 2 ^ s in
    let e : bit_and x y / 2 ^ 8 ≡ bit_and (w / 2 ^ (s + 8)) (n / 2 ^ (s + 8)) = and_shr x y 8 ∙ ap₂ bit_and (shr-shr w s 8) (shr-shr n s 8) in
    ap₂ (λ (p q : ℕ). not (eqb p q)) (step k (bit_and x y)) (step k y)
    ∙ ap not (eqb_digits (filled_in k (bit_and x y / 2 ^ 8)) (filled_in k (y / 2 ^ 8)) (filled_byte (bit_and x y % 2 ^ 8)) (filled_byte (y % 2 ^ 8)) (filled_byte_lt (bit_and x y % 2 ^ 8)) (filled_byte_lt (y % 2 ^ 8)))
    ∙ not_and (eqb (filled_in k (bit_and x y / 2 ^ 8)) (filled_in k (y / 2 ^ 8))) (eqb (filled_byte (bit_and x y % 2 ^ 8)) (filled_byte (y % 2 ^ 8)))
    ∙ ap₂ ◌||◌
    (ap₂ (λ (p q : ℕ). not (eqb (filled_in k p) (filled_in k q))) e (shr-shr n s 8) ∙ all_missing k (s + 8) n w)
    (ap (λ (p : ℕ). not (eqb (filled_byte p) (filled_byte (y % 2 ^ 8)))) (and_mod x y 8) ∙ byte_missing (y % 2 ^ 8) (x % 2 ^ 8) (omega arith))

-- what the code compares
pub filled_missing : (p q n w : ℕ)
    → p ≡ bit_and (bit_or (bit_and (bit_and w n) 0x7F7F_7F7F_7F7F_7F7F + 0x7F7F_7F7F_7F7F_7F7F) (bit_and w n)) 0x8080_8080_8080_8080
    → q ≡ bit_and (bit_or (bit_and n 0x7F7F_7F7F_7F7F_7F7F + 0x7F7F_7F7F_7F7F_7F7F) n) 0x8080_8080_8080_8080
    → not (eqb p q) ≡ missing n w
unfolding missing_in missing_byte repeated filled_in
filled_missing p q n w ep eq = ap₂ (λ (x y : ℕ). not (eqb x y)) (ep ∙ ap (filled_in 8) (ap₂ bit_and (sym (div-one w)) (sym (div-one n)))) (eq ∙ ap (filled_in 8) (sym (div-one n))) ∙ all_missing 8 0 n w
