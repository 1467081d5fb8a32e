-- Bits within an aligned word, and across two.
use mathlib.Core.Path.{◌≡◌, sym, ap, ap₂, ◌∙◌}
use mathlib.Core.List.{List}
use Prim.Native.Nat.{ℕ, ◌+◌, ◌-◌, ◌*◌, ◌/◌, ◌%◌, ◌^◌, ◌≤◌, ◌<◌}
use native.Mathlib.Nat.{mod-le, div-one, div-mul-le_self, mul-le-mul_right, le_trans}
use native.Mathlib.Omega.{arith}
use lib.Bits.{bit_or, or_shifted}
use lib.Pow.{shl_exact, shl-shr, shr_lt, shr-shr, split, field as slot}
use Rattle.fields.specs.Slot.{get}
use Rattle.fields.specs.Field.{field, store}
use Rattle.fields.specs.Bytes.{num, size}
use Rattle.fields.specs.Memory.{Kept}
use Rattle.fields.proofs.Slots.{get_lt, put_sum, put_lt}
use Rattle.fields.proofs.Places.{field_lt, field_join, field_field, store_inside, store_join}
use Rattle.instructions.specs.Private.Loops.{Room}

-- n bits from bit j on, by a shift to the left end and one to the right
pub shifted_part : (w j n : ℕ) → j + n ≤ 64 → w * 2 ^ j % 2 ^ 64 / 2 ^ (64 - n) ≡ field 64 j n w
shifted_part w j n le =
    let e : n + (64 - n) ≡ 64 = omega arith in
    let f : j + (64 - (j + n)) ≡ 64 - n = omega arith in
    ap (λ (k : ℕ). w * 2 ^ j % 2 ^ k / 2 ^ (64 - n)) (sym e)
    ∙ slot (w * 2 ^ j) n (64 - n)
    ∙ ap (λ (y : ℕ). y % 2 ^ n) (ap (λ (k : ℕ). w * 2 ^ j / 2 ^ k) (sym f) ∙ sym (shr-shr (w * 2 ^ j) j (64 - (j + n))) ∙ ap (λ (y : ℕ). y / 2 ^ (64 - (j + n))) (shl-shr w j))

-- a part h of w taken out, and v put in: the shifts lose nothing
module _ (w j n v h : ℕ) (hw : w < 2 ^ 64) (le : j + n ≤ 64) (hv : v < 2 ^ n) (eh : h ≡ field 64 j n w) where
  held : h * 2 ^ (64 - (j + n)) % 2 ^ 64 ≡ get (64 - (j + n)) n w * 2 ^ (64 - (j + n))
  held = rw eh (shl_exact {a = get (64 - (j + n)) n w} n (64 - (j + n)) 64 (get_lt (64 - (j + n)) n w) (omega arith))

  new : v * 2 ^ (64 - (j + n)) % 2 ^ 64 ≡ v * 2 ^ (64 - (j + n))
  new = shl_exact {a = v} n (64 - (j + n)) 64 hv (omega arith)

  below : get (64 - (j + n)) n w * 2 ^ (64 - (j + n)) ≤ w
  below = le_trans (mul-le-mul_right (2 ^ (64 - (j + n))) (mod-le (w / 2 ^ (64 - (j + n))) (2 ^ n))) (div-mul-le_self w (2 ^ (64 - (j + n))))

  pub placed_sub : h * 2 ^ (64 - (j + n)) % 2 ^ 64 ≤ w
  placed_sub = rw held below

  pub placed_is : w - h * 2 ^ (64 - (j + n)) % 2 ^ 64 + v * 2 ^ (64 - (j + n)) % 2 ^ 64 ≡ store 64 j n v w
  placed_is = rw (held, new) (put_sum (64 - (j + n)) n v w)

  pub placed_fits : w - h * 2 ^ (64 - (j + n)) % 2 ^ 64 + v * 2 ^ (64 - (j + n)) % 2 ^ 64 < 2 ^ 64
  placed_fits = rw placed_is (put_lt (64 - (j + n)) n v 64 w hv (omega arith) hw)

pub in_word : (m : List ℕ) (at n w r : ℕ) → Room m at n → at % 64 + n ≤ 64 → w ≡ field (size m) (8 * (at / 64 * 8)) 64 (num m) → r ≡ field 64 (at % 64) n w → r ≡ field (size m) at n (num m)
in_word m at n w r k le ew er =
    let e : 8 * (at / 64 * 8) + at % 64 ≡ at = omega arith in
    er ∙ ap (field 64 (at % 64) n) ew ∙ field_field (size m) (8 * (at / 64 * 8)) 64 (at % 64) n (num m) (omega arith) le ∙ ap (λ (a : ℕ). field (size m) a n (num m)) e

pub to_word : (m m' : List ℕ) (at n v w x : ℕ) → Room m at n → at % 64 + n ≤ 64 → v < 2 ^ n → w ≡ field (size m) (8 * (at / 64 * 8)) 64 (num m) → x ≡ store 64 (at % 64) n v w
    → Kept m (8 * (at / 64 * 8)) 64 x m' → Kept m at n v m'
to_word m m' at n v w x r le hv ew ex k =
    let e : 8 * (at / 64 * 8) + at % 64 ≡ at = omega arith in
    record {
      as_long = k.as_long;
      holds = k.holds ∙ ap (λ (y : ℕ). store (size m) (8 * (at / 64 * 8)) 64 y (num m)) (ex ∙ ap (store 64 (at % 64) n v) ew)
          ∙ sym (store_inside (size m) (8 * (at / 64 * 8)) 64 (at % 64) n v (num m) hv (omega arith) le) ∙ ap (λ (a : ℕ). store (size m) a n v (num m)) e;
    }

pub joined_bits : (L at h l x u y : ℕ) → h + l ≤ 64 → at + (h + l) ≤ L → u ≡ field L at h x → y ≡ field L (at + h) l x → bit_or (u * 2 ^ l % 2 ^ 64) y ≡ field L at (h + l) x
joined_bits L at h l x u y le la eu ey =
    let hu : u < 2 ^ h = rw eu (field_lt L at h x) in
    let hy : y < 2 ^ l = rw ey (field_lt L (at + h) l x) in
    ap (λ (p : ℕ). bit_or p y) (shl_exact {a = u} h l 64 hu le) ∙ or_shifted u l y hy ∙ ap₂ (λ (p q : ℕ). p * 2 ^ l + q) eu ey ∙ sym (field_join L at h l x la)

-- v in two parts, to the words on both sides of a boundary
pub left_part : (v h n : ℕ) → h ≤ n → v < 2 ^ n → v / 2 ^ (n - h) < 2 ^ h
left_part v h n le lt = let e : h + (n - h) ≡ n = omega arith in shr_lt h (n - h) (rw e lt)

pub two_words : (m m₁ m₂ : List ℕ) (at h n v y : ℕ) → h ≤ n → n ≤ 64 → at + n ≤ size m → v < 2 ^ n → y ≡ field 64 (64 - (n - h)) (n - h) v
    → Kept m at h (v / 2 ^ (n - h)) m₁ → Kept m₁ (at + h) (n - h) y m₂ → Kept m at n v m₂
two_words m m₁ m₂ at h n v y le few la lt ey k₁ k₂ =
    let l : ℕ = n - h in
    let e : h + (n - h) ≡ n = omega arith in
    let z : 64 - ((64 - (n - h)) + (n - h)) ≡ 0 = omega arith in
    let ey' : y ≡ v % 2 ^ (n - h) = ey ∙ ap (λ (k : ℕ). v / 2 ^ k % 2 ^ (n - h)) z ∙ ap (λ (q : ℕ). q % 2 ^ (n - h)) (div-one v) in
    let hy : y < 2 ^ (n - h) = rw ey (field_lt 64 (64 - (n - h)) (n - h) v) in
    let es : size m₁ ≡ size m = ap (λ (k : ℕ). 8 * k) k₁.as_long in
    record {
      as_long = k₂.as_long ∙ k₁.as_long;
      holds = k₂.holds ∙ ap₂ (λ (L x : ℕ). store L (at + h) (n - h) y x) es k₁.holds
          ∙ store_join (size m) at h (n - h) (v / 2 ^ (n - h)) y (num m) (left_part v h n le lt) hy (omega arith)
          ∙ ap₂ (λ (k q : ℕ). store (size m) at k q (num m)) e (ap (λ (q : ℕ). v / 2 ^ (n - h) * 2 ^ (n - h) + q) ey' ∙ split v (n - h));
    }
