-- What an instruction means: what is made of its operands, and where that goes. Sections 5 to 9 of docs/MACHINE.md.
use Rattle.std.specs.Prelude.{Bool, true, false, cond, ℕ, eqb, ltb}
use Rattle.std.specs.Int.Signed.{lt_z}
use Rattle.numbers.specs.Number.{coefficient_at}
use Rattle.numbers.specs.Words.{low48}
use Rattle.numbers.specs.declared.flags.Made.{Made}
use Rattle.fields.specs.declared.gathers.Rule.{Rule}
use Rattle.instructions.specs.declared.table.Kind.{Kind}

-- ---- what is made

-- §4.4: a word that raises no flags.
abbrev pub plain : ℕ → Made ℕ
plain w = record { item = w; flags = 0 }

-- ---- what is compared

-- §6.2, §6.5: the low 48 of m and of n are the same.
abbrev pub same : ℕ → ℕ → Bool
same m n = eqb (low48 m) (low48 n)

-- §6.2, §6.8: the low 48 of m are less than those of n, both as unsigned numbers or both as signed ones.
unfoldable pub less : Bool → ℕ → ℕ → Bool
less unsigned m n = cond unsigned (ltb (low48 m) (low48 n)) (lt_z (coefficient_at 47 m) (coefficient_at 47 n))

-- ---- what an instruction does with it

-- §5.1: a register instruction: one step, with registers and one byte or word of memory.
pub data Act : Type 0 where
  to_t : (ℕ → ℕ → Made ℕ) → Act  -- T becomes what is made of R and S
  to_half_t : (ℕ → ℕ → Made ℕ) → Act  -- T, a half word, becomes it
  loads_byte loads_word : Act  -- §5.4, §5.20: T becomes what is at R plus S bytes, or words
  stores_byte stores_word : Act  -- §5.5, §5.21: what is there becomes the right byte of T, or T

-- §10.2: a vector, bit or move instruction: item by item.
pub data Work : Type 0 where
  gathers : Rule → Work  -- §8.4, §8.5, §8.6: a bit of T becomes one of R or S
  each_of_a_b : (ℕ → ℕ → Made ℕ) → Work  -- §7.8, §7.9, §7.10: a word of C becomes what is made of those of A and B
  each_of_a : (ℕ → Made ℕ) → Work  -- §7.11, §7.12, §7.13, §7.16: .. of A alone
  half_of_a : (ℕ → Made ℕ) → Work  -- §7.14, §7.15: a half word of C becomes what is made of a word of A
  moves : Work  -- §9.1: a byte of C becomes one of A, or the byte B itself

-- §3.8: what a code means.
pub data Meaning : Type 0 where
  unlisted : Meaning  -- §12.9: of a code that is not in the table
  exits : Meaning  -- §5.3: the run ends
  acts : Act → Meaning
  branches : (Bool → ℕ → ℕ → Bool) → Meaning  -- §6.1, §6.4: C becomes A plus X; P becomes B plus Y half words where the sum compares so with Z
  works : Work → Meaning

-- §10.2: it goes by items.
abbrev pub goes_by_items : Meaning → Bool
goes_by_items unlisted = false
goes_by_items exits = false
goes_by_items (acts a) = false
goes_by_items (branches c) = false
goes_by_items (works k) = true

-- The kind that a row of the program's own table (src/table.rt) has for a meaning. What is not listed has no row, and its kind is never asked for.
abbrev pub kind_for : Meaning → Kind
kind_for unlisted = Kind.Exit
kind_for exits = Kind.Exit
kind_for (acts (to_t f)) = Kind.Register
kind_for (acts (to_half_t f)) = Kind.Register
kind_for (acts loads_byte) = Kind.LoadByte
kind_for (acts loads_word) = Kind.LoadWord
kind_for (acts stores_byte) = Kind.StoreByte
kind_for (acts stores_word) = Kind.StoreWord
kind_for (branches c) = Kind.Branch
kind_for (works (gathers Rule.Compress)) = Kind.Compress
kind_for (works (gathers Rule.Merge)) = Kind.Merge
kind_for (works (gathers Rule.Mask)) = Kind.Mask
kind_for (works (each_of_a_b f)) = Kind.TwoSources
kind_for (works (each_of_a f)) = Kind.OneSource
kind_for (works (half_of_a f)) = Kind.HalfResult
kind_for (works moves) = Kind.Move
