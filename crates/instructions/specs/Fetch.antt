-- The instruction word at P, and whether it lies in memory: sections 3 and 12 of docs/MACHINE.md.
use Rattle.std.specs.Prelude.{Bool, false, cond, not, ◌&&◌, ◌||◌, ℕ, ◌*◌, ◌/◌, ◌^◌}
use Rattle.fields.specs.declared.extents.Unit.TheVariants.{HalfWord}
use Rattle.fields.specs.declared.extents.Field.{Field}
use Rattle.fields.specs.Extents.{field_of, aligned, inside}
use Rattle.fields.specs.Memory.{field_in}
use Rattle.instructions.specs.Table.{format_of, long}
use Rattle.instructions.specs.Operands.{found_in, row_says}

-- §3.1: its code has a row, with a 64-bit format.
unfoldable pub long_in : ℕ → Bool
long_in w = row_says false (λ r. long (format_of r)) (found_in w)

-- §3.1: the bits of a word; a code without a row is taken for a short one.
abbrev pub length_of : ℕ → ℕ
length_of w = cond (long_in w) 64 32

-- The h half words at p as a field.
abbrev pub half_words_at : ℕ → ℕ → Field
half_words_at p h = field_of HalfWord (record { 0 = p }) h

-- §12.8: they are in a memory of n bytes.
unfoldable pub there : ℕ → ℕ → ℕ → Bool
there p h n = aligned (half_words_at p h) && inside (half_words_at p h) n

-- §12.3: the 64 bits at p, of a memory of n bytes that is the number x; a half that is not there reads as zeros.
unfoldable pub two_halves_at : ℕ → ℕ → ℕ → ℕ
two_halves_at n x p = cond (there p 2 n) (field_in n x p 64) (cond (there p 1 n) (field_in n x p 32 * 2 ^ 32) 0)

-- §12.3, §3.4: the word: all of them for a long one, else the left half and zeros.
unfoldable pub fetch_of : ℕ → ℕ → ℕ → ℕ
fetch_of n x p = cond (long_in (two_halves_at n x p)) (two_halves_at n x p) (two_halves_at n x p / 2 ^ 32 * 2 ^ 32)

-- §12.8: refusal 4: the half word at p is not there, or the word is long and its second half is not.
unfoldable pub unfetched_at : ℕ → Bool → ℕ → Bool
unfetched_at p is_long n = not (there p 1 n) || (is_long && not (there p 2 n))
