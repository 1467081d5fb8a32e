-- The lent bytes as one number: byte k is the field of 8 bits at bit 8 k, a bit is a field within its byte, to set a byte is to store that field, and
-- the number with the length says which bytes they are. All by cutting the list into what stands before, the byte, and what stands after.
use mathlib.Core.Path.{◌≡◌, refl, sym, ap, ap₂, ◌∙◌}
use mathlib.Core.List.{List, [], ◌∷◌, ◌++◌}
use Prim.Native.Nat.{ℕ, zero, suc, ◌+◌, ◌-◌, ◌*◌, ◌/◌, ◌%◌, ◌^◌, ◌<◌}
use native.Mathlib.Nat.{mul-suc, mul-add, add-mul, mul_assoc, add_assoc, zero-mul, zero-add}
use native.Mathlib.Omega.{arith}
use lib.ListN.{length, get_or, take, drop, set, length-append, length-drop}
use lib.Seq.{split_at, set_split, get_or-drop}
use lib.Pow.{pow-add, high, low, shr-shr}
use lib.Arith.{digits_lt}
use Rattle.fields.specs.Slot.{get, put}
use Rattle.fields.specs.Field.{field, store}
use Rattle.fields.specs.Bytes.{num, size, Bytes}
use Rattle.fields.proofs.Slots.{put_unique, put_lt}
use Rattle.fields.proofs.Places.{field_field, store_inside}

pub num_lt : (l : List ℕ) → Bytes l → num l < 2 ^ size l
num_lt [] h = omega arith
num_lt (b ∷ l) h =
    rw (mul-suc 8 (length l), add_comm_8 l, pow-add) (digits_lt (h 0) (num_lt l (λ (i : ℕ). h (suc i))))
  where
    add_comm_8 : (l : List ℕ) → 8 * length l + 8 ≡ 8 + 8 * length l
    add_comm_8 l = omega arith

pub num_append : (p q : List ℕ) → num (p ++ q) ≡ num p * 2 ^ size q + num q
num_append [] q = sym (rw (zero-mul, zero-add) refl)
num_append (b ∷ p) q =
    let e : 2 ^ (8 * length (p ++ q)) ≡ 2 ^ size p * 2 ^ size q = ap (λ (n : ℕ). 2 ^ n) (ap (λ (n : ℕ). 8 * n) (length-append p q) ∙ mul-add 8 (length p) (length q)) ∙ pow-add 2 (size p) (size q) in
    ap₂ (λ (m n : ℕ). b * m + n) e (num_append p q)
    ∙ sym (add_assoc (b * (2 ^ size p * 2 ^ size q)) (num p * 2 ^ size q) (num q))
    ∙ ap (λ (n : ℕ). n + num p * 2 ^ size q + num q) (sym (mul_assoc b (2 ^ size p) (2 ^ size q)))
    ∙ ap (λ (n : ℕ). n + num q) (sym (add-mul (b * 2 ^ size p) (num p) (2 ^ size q)))

-- ---- the bytes q between p and r are a field

between : (p q r : List ℕ) → num (p ++ (q ++ r)) ≡ (num p * 2 ^ size q + num q) * 2 ^ size r + num r
between p q r =
    let e : 2 ^ size (q ++ r) ≡ 2 ^ size q * 2 ^ size r = ap (λ (n : ℕ). 2 ^ n) (ap (λ (n : ℕ). 8 * n) (length-append q r) ∙ mul-add 8 (length q) (length r)) ∙ pow-add 2 (size q) (size r) in
    num_append p (q ++ r) ∙ ap₂ (λ (m n : ℕ). num p * m + n) e (num_append q r)
    ∙ sym (add_assoc (num p * (2 ^ size q * 2 ^ size r)) (num q * 2 ^ size r) (num r))
    ∙ ap (λ (n : ℕ). n + num q * 2 ^ size r + num r) (sym (mul_assoc (num p) (2 ^ size q) (2 ^ size r)))
    ∙ ap (λ (n : ℕ). n + num r) (sym (add-mul (num p * 2 ^ size q) (num q) (2 ^ size r)))

module _ (p q r : List ℕ) (hq : Bytes q) (hr : Bytes r) where
  shr : num (p ++ (q ++ r)) / 2 ^ size r ≡ num p * 2 ^ size q + num q
  shr = ap (λ (x : ℕ). x / 2 ^ size r) (between p q r) ∙ high _ (size r) (num_lt r hr)

  pub get_between : get (size r) (size q) (num (p ++ (q ++ r))) ≡ num q
  get_between = ap (λ (x : ℕ). x % 2 ^ size q) shr ∙ low _ (size q) (num_lt q hq)

  left_between : num (p ++ (q ++ r)) / 2 ^ (size r + size q) ≡ num p
  left_between = sym (shr-shr _ (size r) (size q)) ∙ ap (λ (x : ℕ). x / 2 ^ size q) shr ∙ high _ (size q) (num_lt q hq)

  right_between : num (p ++ (q ++ r)) % 2 ^ size r ≡ num r
  right_between = ap (λ (x : ℕ). x % 2 ^ size r) (between p q r) ∙ low _ (size r) (num_lt r hr)

pub put_between : (p q q' r : List ℕ) → Bytes q → Bytes q' → Bytes r → length q' ≡ length q → num (p ++ (q' ++ r)) ≡ put (size r) (size q) (num q') (num (p ++ (q ++ r)))
put_between p q q' r hq hq' hr e =
    put_unique (size r) (size q) (num q') (num (p ++ (q ++ r))) (num (p ++ (q' ++ r)))
    (ap (λ (n : ℕ). num (p ++ (q' ++ r)) / 2 ^ (size r + 8 * n)) (sym e) ∙ left_between p q' r hq' hr ∙ sym (left_between p q r hq hr))
    (ap (λ (n : ℕ). get (size r) (8 * n) (num (p ++ (q' ++ r)))) (sym e) ∙ get_between p q' r hq' hr)
    (right_between p q' r hq' hr ∙ sym (right_between p q r hq hr))

-- ---- one byte

one : (b : ℕ) → b < 256 → Bytes (b ∷ [])
one b h zero = h
one b h (suc i) = omega arith

pub bytes_drop : (k : ℕ) (l : List ℕ) → Bytes l → Bytes (drop k l)
bytes_drop k l h i = rw get_or-drop (h (k + i))

pub bytes_take : (k : ℕ) (l : List ℕ) → Bytes l → Bytes (take k l)
bytes_take zero l h i = omega arith
bytes_take (suc k) [] h i = omega arith
bytes_take (suc k) (b ∷ l) h zero = h 0
bytes_take (suc k) (b ∷ l) h (suc i) = bytes_take k l (λ (j : ℕ). h (suc j)) i

num_one : (b : ℕ) → num (b ∷ []) ≡ b
num_one b = omega arith

-- the k-th byte is the field of 8 bits at bit 8 k
pub byte_field : (l : List ℕ) (k : ℕ) → Bytes l → k < length l → field (size l) (8 * k) 8 (num l) ≡ get_or l k 0
byte_field l k h lt =
    let e : size l - (8 * k + 8) ≡ size (drop (suc k) l) = rw length-drop (omega arith) in
    rw e (ap (λ (y : List ℕ). get (size (drop (suc k) l)) 8 (num y)) (split_at l k 0 lt)
    ∙ get_between (take k l) (get_or l k 0 ∷ []) (drop (suc k) l) (one (get_or l k 0) (h k)) (bytes_drop (suc k) l h) ∙ num_one (get_or l k 0))

-- to set the k-th byte is to store the field
pub byte_store : (l : List ℕ) (k b : ℕ) → Bytes l → b < 256 → k < length l → num (set l k b) ≡ store (size l) (8 * k) 8 b (num l)
byte_store l k b h hb lt =
    let e : size l - (8 * k + 8) ≡ size (drop (suc k) l) = rw length-drop (omega arith) in
    rw e (ap num (set_split l k b lt)
    ∙ put_between (take k l) (get_or l k 0 ∷ []) (b ∷ []) (drop (suc k) l) (one (get_or l k 0) (h k)) (one b hb) (bytes_drop (suc k) l h) refl
    ∙ ap₂ (λ (v : ℕ) (y : List ℕ). put (size (drop (suc k) l)) 8 v (num y)) (num_one b) (sym (split_at l k 0 lt)))

-- ---- a bit within its byte

in_byte : (a : ℕ) → a ≡ 8 * (a / 8) + a % 8
in_byte a = omega arith

pub bit_field : (l : List ℕ) (a : ℕ) → Bytes l → a < size l → get_or l (a / 8) 0 / 2 ^ (7 - a % 8) % 2 ≡ field (size l) a 1 (num l)
bit_field l a h lt =
    let e : 7 - a % 8 ≡ 8 - (a % 8 + 1) = omega arith in
    ap₂ (λ (b s : ℕ). b / 2 ^ s % 2) (sym (byte_field l (a / 8) h (omega arith))) e
    ∙ field_field (size l) (8 * (a / 8)) 8 (a % 8) 1 (num l) (omega arith) (omega arith)
    ∙ ap (λ (k : ℕ). field (size l) k 1 (num l)) (sym (in_byte a))

pub bit_store : (l : List ℕ) (a v : ℕ) → Bytes l → v < 2 → a < size l → num (set l (a / 8) (store 8 (a % 8) 1 v (get_or l (a / 8) 0))) ≡ store (size l) a 1 v (num l)
bit_store l a v h hv lt =
    let b : ℕ = get_or l (a / 8) 0 in
    byte_store l (a / 8) (store 8 (a % 8) 1 v b) h (put_lt (8 - (a % 8 + 1)) 1 v 8 b hv (omega arith) (h (a / 8))) (omega arith)
    ∙ ap (λ (y : ℕ). store (size l) (8 * (a / 8)) 8 (store 8 (a % 8) 1 v y) (num l)) (sym (byte_field l (a / 8) h (omega arith)))
    ∙ sym (store_inside (size l) (8 * (a / 8)) 8 (a % 8) 1 v (num l) hv (omega arith) (omega arith))
    ∙ ap (λ (k : ℕ). store (size l) k 1 v (num l)) (sym (in_byte a))

-- a list of bytes in which one is set is one
pub bytes_set : (l : List ℕ) (k b : ℕ) → Bytes l → b < 256 → Bytes (set l k b)
bytes_set [] k b h hb i = h i
bytes_set (a ∷ l) zero b h hb zero = hb
bytes_set (a ∷ l) zero b h hb (suc i) = h (suc i)
bytes_set (a ∷ l) (suc k) b h hb zero = h 0
bytes_set (a ∷ l) (suc k) b h hb (suc i) = bytes_set l k b (λ (j : ℕ). h (suc j)) hb i

-- ---- the number and the length say which bytes

pub num_inj : (l l' : List ℕ) → Bytes l → Bytes l' → length l ≡ length l' → num l ≡ num l' → l ≡ l'
num_inj [] [] h h' e n = refl
num_inj [] (b ∷ l') h h' e n = absurd (omega arith)
num_inj (b ∷ l) [] h h' e n = absurd (omega arith)
num_inj (b ∷ l) (b' ∷ l') h h' e n =
    let t : Bytes l = λ (i : ℕ). h (suc i) in
    let t' : Bytes l' = λ (i : ℕ). h' (suc i) in
    let el : length l ≡ length l' = omega arith in
    let n' : b * 2 ^ size l + num l ≡ b' * 2 ^ size l + num l' = n ∙ ap (λ (k : ℕ). b' * 2 ^ (8 * k) + num l') (sym el) in
    let lt' : num l' < 2 ^ size l = rw el (num_lt l' t') in
    ap₂ ◌∷◌
    (sym (high b (size l) (num_lt l t)) ∙ ap (λ (x : ℕ). x / 2 ^ size l) n' ∙ high b' (size l) lt')
    (num_inj l l' t t' el (sym (low b (size l) (num_lt l t)) ∙ ap (λ (x : ℕ). x % 2 ^ size l) n' ∙ low b' (size l) lt'))
