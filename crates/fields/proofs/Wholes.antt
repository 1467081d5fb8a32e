-- Eight bytes as std makes a number of them and back, and a part of them that is taken from memory or put into it: the same number that `num` writes.
use mathlib.Core.Path.{◌≡◌, refl, sym, ap, ap₂, ◌∙◌}
use mathlib.Core.List.{List, [], ◌∷◌, ◌++◌}
use Prim.Native.Nat.{ℕ, zero, suc, ◌+◌, ◌-◌, ◌*◌, ◌/◌, ◌%◌, ◌^◌, ◌≤◌, ◌<◌}
use native.Mathlib.Nat.{mod-lt, zero-mul, zero-add, sub_self}
use native.Mathlib.Omega.{arith}
use borrow.Rule.Slice.PartMut.{put_mid}
use lib.ListN.{length, take, drop, replicate, length-append}
use lib.Pow.{pow_pos, high, shl_exact}
use Rattle.std.proofs.Math.Nat.{mul-div_cancel, add-sub_cancel_left}
use Rattle.std.specs.Int.{w64, to_be_bytes, from_be_bytes, bytes_high_first, byte_at}
use Rattle.std.proofs.lemmas.List.{take-append-drop, append-nil, length-take-le, length-drop, length-replicate, take-replicate, drop-replicate}
use Rattle.std.proofs.lemmas.Nat.{from_be_bytes-to_be_bytes_8}
use Rattle.fields.specs.Slot.{get}
use Rattle.fields.specs.Field.{field}
use Rattle.fields.specs.Bytes.{num, size, Bytes}
use Rattle.fields.specs.Memory.{Kept}
use Rattle.fields.proofs.Lists.{num_lt, num_append, get_between, put_between, bytes_take, bytes_drop}

num_eight : (l : List ℕ) → length l ≡ 8 → from_be_bytes w64 l ≡ num l
num_eight (a ∷ b ∷ c ∷ d ∷ e ∷ f ∷ g ∷ h ∷ []) l = omega arith
num_eight [] l = absurd (omega arith)
num_eight (a ∷ []) l = absurd (omega arith)
num_eight (a ∷ b ∷ []) l = absurd (omega arith)
num_eight (a ∷ b ∷ c ∷ []) l = absurd (omega arith)
num_eight (a ∷ b ∷ c ∷ d ∷ []) l = absurd (omega arith)
num_eight (a ∷ b ∷ c ∷ d ∷ e ∷ []) l = absurd (omega arith)
num_eight (a ∷ b ∷ c ∷ d ∷ e ∷ f ∷ []) l = absurd (omega arith)
num_eight (a ∷ b ∷ c ∷ d ∷ e ∷ f ∷ g ∷ []) l = absurd (omega arith)
num_eight (a ∷ b ∷ c ∷ d ∷ e ∷ f ∷ g ∷ h ∷ i ∷ l') l = absurd (omega arith)

num_zeros : (n : ℕ) → num (replicate n 0) ≡ 0
num_zeros zero = refl
num_zeros (suc n) = rw (zero-mul, zero-add) (num_zeros n)

byte_at_lt : (i x : ℕ) → byte_at i x < 256
byte_at_lt zero x = mod-lt x (omega arith)
byte_at_lt (suc i) x = mod-lt (x / 256 ^ suc i) (omega arith)

bytes_high : (n x : ℕ) → Bytes (bytes_high_first n x)
bytes_high zero x i = omega arith
bytes_high (suc n) x zero = byte_at_lt n x
bytes_high (suc n) x (suc i) = bytes_high n x i

module _ (m : List ℕ) (k n : ℕ) (h : Bytes m) (le : k + n ≤ length m) where
  abbrev pub part : List ℕ
  part = take n (drop k m)

  abbrev pub after : List ℕ
  after = drop n (drop k m)

  cut : take k m ++ (part ++ after) ≡ m
  cut = ap (λ (l : List ℕ). take k m ++ l) (take-append-drop n (drop k m)) ∙ take-append-drop k m

  part_long : length part ≡ n
  part_long = length-take-le n (drop k m) (rw length-drop (omega arith))

  after_right : size m - (8 * k + 8 * n) ≡ size after
  after_right = rw (length-drop, length-drop) (omega arith)

  -- the n bytes from byte k on are a field
  part_field : num part ≡ field (size m) (8 * k) (8 * n) (num m)
  part_field =
      rw after_right (sym (get_between (take k m) part after (bytes_take n (drop k m) (bytes_drop k m h)) (bytes_drop n (drop k m) (bytes_drop k m h)))
      ∙ ap₂ (λ (j : ℕ) (l : List ℕ). get (size after) (8 * j) (num l)) part_long cut)

  -- eight bytes that end in them and begin with zeros are their number
  pub read_part : (l : List ℕ) → n ≤ 8 → l ≡ part → from_be_bytes w64 (put_mid (8 - n) (8 - (8 - n)) (replicate 8 0) l) ≡ field (size m) (8 * k) (8 * n) (num m)
  read_part l few e =
      let w : put_mid (8 - n) (8 - (8 - n)) (replicate 8 0) l ≡ replicate (8 - n) 0 ++ part =
      rw (take-replicate {X = ℕ} (8 - n) 8 0 (omega arith), drop-replicate {X = ℕ} (8 - n) 8 0, drop-replicate {X = ℕ} (8 - (8 - n)) (8 - (8 - n)) 0, sub_self, append-nil, e) refl in
      ap (from_be_bytes w64) w
      ∙ num_eight (replicate (8 - n) 0 ++ part) (rw (length-append, length-replicate, part_long) (omega arith))
      ∙ num_append (replicate (8 - n) 0) part
      ∙ ap (λ (y : ℕ). y * 2 ^ size part + num part) (num_zeros (8 - n)) ∙ rw (zero-mul, zero-add) part_field

  -- the first n bytes of v, moved to the left end of eight
  pub put_part : (v : ℕ) (l : List ℕ) → n ≤ 8 → v < 2 ^ (8 * n) → l ≡ take n (to_be_bytes w64 (v * 2 ^ (64 - 8 * n) % 2 ^ 64)) → Kept m (8 * k) (8 * n) v (put_mid k (k + n - k) m l)
  put_part v l few lt e =
      let x : ℕ = v * 2 ^ (64 - 8 * n) in
      let b : List ℕ = to_be_bytes w64 x in
      let exact : x % 2 ^ 64 ≡ x = shl_exact (8 * n) (64 - 8 * n) 64 lt (omega arith) in
      let e' : l ≡ take n b = e ∙ ap (λ (y : ℕ). take n (to_be_bytes w64 y)) exact in
      let long : length (take n b) ≡ n = length-take-le n b few in
      let right : size (drop n b) ≡ 64 - 8 * n = rw length-drop (omega arith) in
      let fits : x < 2 ^ 64 = rw (← exact) (mod-lt x (omega arith)) in
      let whole : num b ≡ x = sym (num_eight b refl) ∙ from_be_bytes-to_be_bytes_8 x fits in
      let joined : num (take n b) * 2 ^ size (drop n b) + num (drop n b) ≡ x =
      sym (num_append (take n b) (drop n b)) ∙ ap num (take-append-drop n b) ∙ whole in
      let is : num (take n b) ≡ v =
      sym (high (num (take n b)) (size (drop n b)) (num_lt (drop n b) (bytes_drop n b (bytes_high 8 x))))
      ∙ ap₂ (λ (y j : ℕ). y / 2 ^ j) joined right ∙ mul-div_cancel v (pow_pos (64 - 8 * n)) in
      let hq : Bytes (take n b) = bytes_take n b (bytes_high 8 x) in
      let w : put_mid k (k + n - k) m l ≡ take k m ++ (take n b ++ after) = rw (e', add-sub_cancel_left k n) refl in
      rw w record {
        as_long = rw (length-append, length-append, long, length-drop, length-drop, length-take-le k m (omega arith)) (omega arith);
        holds = put_between (take k m) part (take n b) after (bytes_take n (drop k m) (bytes_drop k m h)) hq (bytes_drop n (drop k m) (bytes_drop k m h)) (long ∙ sym part_long)
            ∙ rw (part_long, cut, is, after_right) refl;
      }
