-- Where the word at P lies: a half word or a word that is there begins with a byte and ends in memory, as the reads ask, and with a word its first half is there.
use mathlib.Core.Path.{◌≡◌, refl, sym, ap, ◌∙◌}
use mathlib.Core.Bool.{Bool, true, false, cond, not, ◌&&◌, ◌||◌, beq}
use mathlib.Core.List.{List}
use Prim.Native.Nat.{ℕ, ◌+◌, ◌-◌, ◌*◌, ◌/◌, ◌%◌, ◌^◌, ◌≤◌, ◌<◌}
use native.Mathlib.Nat.{mod-eq_of_lt}
use native.Mathlib.Omega.{arith}
use lib.Dec.{leb, T}
use lib.ListN.{length}
use borrow.Author.Tests.{not-false, lt-leb}
use Rattle.fields.specs.declared.extents.Unit.TheVariants.{HalfWord}
use Rattle.fields.specs.Extents.{aligned, inside}
use Rattle.fields.specs.Field.{field}
use Rattle.fields.specs.Bytes.{num, size}
use Rattle.fields.specs.Memory.{origin, AtByte, field_at}
use Rattle.fields.proofs.Places.{field_lt, field_join}
use Rattle.fields.proofs.FieldMeaning.{Multiple, aligned_multiple, inside_every, inside_ends, all_bits}
use Rattle.instructions.specs.declared.table.Row.{Row}
use Rattle.std.specs.Prelude.{Option, Some, None}
use Rattle.instructions.specs.Operands.{code_in, found_in, row_says}
use Rattle.instructions.specs.Table.{format_of, long, found}
use Rattle.instructions.specs.Private.Inner.{code_of}
use Rattle.instructions.specs.Fetch.{long_in, half_words_at, there, two_halves_at, fetch_of, unfetched_at}
use Rattle.instructions.proofs.TablePlaces.{every}
use Rattle.instructions.proofs.TableRules.{row_passes, found_code}
use Rattle.instructions.proofs.VerdictTests.{both_true, both_false}

-- codes below 80 have 32 bits
pub short_code : (w : ℕ) → code_in w < 0x80 → false ≡ long_in w
unfolding long_in every
short_code w low = go (found_in w) refl
  where
    go : (f : Option Row) → found_in w ≡ f → false ≡ row_says false (λ r. long (format_of r)) f
    go None e = refl
    go (Some r) e = same (long (format_of r)) (leb 0x80 (code_of r)) (row_passes (λ x. beq (long (format_of x)) (leb 0x80 (code_of x))) tt (code_in w) r e) (lt-leb 0x80 (code_of r) (let c = found_code (code_in w) r e in omega (arith, c)))
      where
        same : (a b : Bool) → T (beq a b) → b ≡ false → false ≡ a
        same false b t e = refl
        same true false t e = absurd t
        same true true t e = sym e

pub short_word : (w : ℕ) → w < 0x8000_0000_0000_0000 → false ≡ long_in w
short_word w low = short_code w (let z : w / 2 ^ 56 % 2 ^ 8 < 0x80 = omega arith in z)

module _ (p h n : ℕ) (some : 0 < h) (few : h ≤ 2) where
  bits : (half_words_at p h).bits.0 ≡ h * 32
  bits = all_bits HalfWord (record { 0 = p }) h (omega arith)

  pub there_ends : there p h n ≡ true → (0x4000 ≤ p) × ((p + 32 * h ≤ 0x4000 + 8 * n) × (p % 32 ≡ 0))
  unfolding there
  there_ends e =
      let b : (half_words_at p h).bits.0 ≡ h * 32 = bits in
      let t : (aligned (half_words_at p h) ≡ true) × (inside (half_words_at p h) n ≡ true) = both_true _ _ e in
      let m : Multiple 32 p = (aligned_multiple (half_words_at p h) (omega arith)).0 t.0 in
      let i : (0x4000 ≤ p) × (p + (half_words_at p h).bits.0 ≤ 0x4000 + 8 * n) = inside_ends (half_words_at p h) n (omega arith) t.1 in
      omega arith

  there_from : 0x4000 ≤ p → p + 32 * h ≤ 0x4000 + 8 * n → p % 32 ≡ 0 → there p h n ≡ true
  unfolding there
  there_from l u w =
      let b : (half_words_at p h).bits.0 ≡ h * 32 = bits in
      rw ((aligned_multiple (half_words_at p h) (omega arith)).1 (record { times = p / 32; whole = omega arith }))
      ((inside_every (half_words_at p h) n).1 (λ x i. omega arith))

  -- as the code asks it: in bytes, of which a start that is a multiple of 32 has a whole number before it
  pub there_is : (b : Bool) → (b ≡ true → (0x4000 ≤ p) × (((p - 0x4000) / 8 + h * 4 ≤ n) × (p % 32 ≡ 0))) → (b ≡ false → 0x4000 ≤ p → p % 32 ≡ 0 → n < (p - 0x4000) / 8 + h * 4) → b ≡ there p h n
  there_is true holds fails = let y = holds refl in sym (there_from y.0 (omega (arith, y.0, y.1.0, y.1.1)) y.1.1)
  there_is false holds fails = go (there p h n) refl
    where
      go : (t : Bool) → there p h n ≡ t → false ≡ t
      go false e = refl
      go true e = let t = there_ends e in let l = fails refl t.0 t.1.1 in absurd (omega (arith, l, t.0, t.1.0, t.1.1))

-- what the reads ask
pub there_aligned : (m : List ℕ) (p h : ℕ) → 0 < h → h ≤ 2 → there p h (length m) ≡ true → AtByte m p (32 * h)
there_aligned m p h some few e = let t = there_ends p h (length m) some few e in omega arith

-- a half word in the left half of a word
pub left_half : (m : List ℕ) (p x : ℕ) → x ≡ field_at m p 32 → x * 2 ^ 32 % 2 ^ 64 ≡ field_at m p 32 * 2 ^ 32
left_half m p x e = let l : field_at m p 32 < 2 ^ 32 = field_lt (size m) (p - origin) 32 (num m) in rw e (mod-eq_of_lt (omega arith))

-- with a word its first half
pub first_half : (p n : ℕ) → there p 2 n ≡ true → there p 1 n ≡ true
first_half p n e = let t = there_ends p 2 n (omega arith) (omega arith) e in there_from p 1 n (omega arith) (omega arith) (omega arith) (omega arith) (omega arith)

-- ---- 4: one place is enough to ask for

pub long_unfetched : (p n : ℕ) → not (there p 2 n) ≡ unfetched_at p true n
unfolding unfetched_at
long_unfetched p n = go (there p 1 n) (there p 2 n) (first_half p n)
  where
    go : (s t : Bool) → (t ≡ true → s ≡ true) → not t ≡ (not s || (true && not t))
    go true true h = refl
    go true false h = refl
    go false false h = refl
    go false true h = h refl

pub short_unfetched : (p n : ℕ) → not (there p 1 n) ≡ unfetched_at p false n
unfolding unfetched_at
short_unfetched p n = go (there p 1 n)
  where
    go : (s : Bool) → not s ≡ (not s || (false && not (there p 2 n)))
    go true = refl
    go false = refl

-- ---- what is fetched

same_code : (x : ℕ) → x / 2 ^ 32 * 2 ^ 32 / 2 ^ 56 % 2 ^ 8 ≡ x / 2 ^ 56 % 2 ^ 8
same_code x = omega arith

module _ (m : List ℕ) (p : ℕ) where
  -- the left half says how long the word is
  same_length : long_in (fetch_of (length m) (num m) p) ≡ long_in (two_halves_at (length m) (num m) p)
  unfolding fetch_of long_in
  same_length = go (long_in (two_halves_at (length m) (num m) p))
    where
      go : (b : Bool) → row_says false (λ r. long (format_of r)) (found_in (cond b (two_halves_at (length m) (num m) p) (two_halves_at (length m) (num m) p / 2 ^ 32 * 2 ^ 32))) ≡ row_says false (λ r. long (format_of r)) (found_in (two_halves_at (length m) (num m) p))
      go true = refl
      go false = ap (λ (k : ℕ). row_says false (λ r. long (format_of r)) (found k)) (same_code (two_halves_at (length m) (num m) p))

  left_of_word : there p 2 (length m) ≡ true → field_at m p 64 / 2 ^ 32 ≡ field_at m p 32
  left_of_word e =
      let t = there_ends p 2 (length m) (omega arith) (omega arith) e in
      let j : field_at m p 64 ≡ field_at m p 32 * 2 ^ 32 + field (size m) (p - origin + 32) 32 (num m) = field_join (size m) (p - origin) 32 32 (num m) (omega arith) in
      let l : field (size m) (p - origin + 32) 32 (num m) < 2 ^ 32 = field_lt (size m) (p - origin + 32) 32 (num m) in
      omega arith

  left_of_there : there p 1 (length m) ≡ true → two_halves_at (length m) (num m) p / 2 ^ 32 ≡ field_at m p 32
  unfolding two_halves_at
  left_of_there e = go (there p 2 (length m)) refl
    where
      go : (b : Bool) → there p 2 (length m) ≡ b → cond b (field_at m p 64) (cond (there p 1 (length m)) (field_at m p 32 * 2 ^ 32) 0) / 2 ^ 32 ≡ field_at m p 32
      go true t = left_of_word t
      go false t = rw e (omega arith)

  whole_there : there p 2 (length m) ≡ true → two_halves_at (length m) (num m) p ≡ field_at m p 64
  unfolding two_halves_at
  whole_there e = rw e

  fetched_as : (b : Bool) → long_in (two_halves_at (length m) (num m) p) ≡ b → fetch_of (length m) (num m) p ≡ cond b (two_halves_at (length m) (num m) p) (two_halves_at (length m) (num m) p / 2 ^ 32 * 2 ^ 32)
  unfolding fetch_of
  fetched_as b e = ap (λ (t : Bool). cond t (two_halves_at (length m) (num m) p) (two_halves_at (length m) (num m) p / 2 ^ 32 * 2 ^ 32)) e

  at_length : (b : Bool) → long_in (two_halves_at (length m) (num m) p) ≡ b → unfetched_at p b (length m) ≡ false → fetch_of (length m) (num m) p ≡ cond b (field_at m p 64) (field_at m p 32 * 2 ^ 32)
  unfolding unfetched_at
  at_length true t h = fetched_as true t ∙ whole_there (not-false _ (both_false (not (there p 1 (length m))) (not (there p 2 (length m))) h).1)
  at_length false t h = fetched_as false t ∙ ap (λ (x : ℕ). x * 2 ^ 32) (left_of_there (not-false _ (both_false (not (there p 1 (length m))) false h).0))

  -- where 4 does not refuse it, the word fetched is what memory holds at P: 64 bits, or 32 in the left half
  pub fetched_there : unfetched_at p (long_in (fetch_of (length m) (num m) p)) (length m) ≡ false → fetch_of (length m) (num m) p ≡ cond (long_in (fetch_of (length m) (num m) p)) (field_at m p 64) (field_at m p 32 * 2 ^ 32)
  fetched_there u = at_length (long_in (fetch_of (length m) (num m) p)) (sym same_length) u
