-- Instruction words: their parts, and the first of refusals 5, 6 and 7 that a word meets. Section 3 of docs/MACHINE.md.
use Rattle.std.specs.Prelude.{Bool, not, cond, ◌&&◌, ◌||◌, List, [], ◌∷◌, ℕ, eqb, Option, Some, None, Result, Ok, Err}
use Rattle.std.specs.Int.Bits.{bit_and}
use Rattle.fields.specs.Field.{field}
use Rattle.fields.specs.Bytes.{num}
use Rattle.instructions.specs.declared.table.Row.{Row}
use Rattle.instructions.specs.declared.words.Parts.{Parts}
use Rattle.instructions.specs.declared.words.Refusal.{Refusal}
use Rattle.instructions.specs.Table.{format_of, named_of, vector_format, zero_bits, found}

-- §3.3, §3.14: the eight parts of a word, a byte each; R, S and T of a 32-bit word are the second to the fourth.
abbrev pub parts_of : ℕ → Parts
parts_of w =
    record {
      f = field 64 0 8 w;
      g = field 64 8 8 w;
      x = field 64 16 8 w;
      a = field 64 24 8 w;
      y = field 64 32 8 w;
      b = field 64 40 8 w;
      z = field 64 48 8 w;
      c = field 64 56 8 w;
    }

-- §3.14: the parts in the order of the word.
abbrev pub in_order : Parts → List ℕ
in_order p = p.f ∷ p.g ∷ p.x ∷ p.a ∷ p.y ∷ p.b ∷ p.z ∷ p.c ∷ []

-- §3.14: the parts put together, whatever they are.
abbrev pub joined : Parts → ℕ
joined p = num (in_order p)

-- §3.10: G bit 1 is one, and Z is 00.
abbrev pub uncontrolled : ℕ → Bool
uncontrolled w = eqb (field 64 9 1 w) 1 && eqb (field 64 48 8 w) 0

-- §3.9, §3.10: refusal 6: a bit is one that must be zero, or a vector has a sense without a control field.
unfoldable pub not_zero : Row → ℕ → Bool
not_zero r w = not (eqb (bit_and w (zero_bits r)) 0) || (vector_format (format_of r) && uncontrolled w)

-- §3.11, §3.12: the designator at bit a has no meaning. `named` has FF there where 00 has none, FE where half words 00 and 01 have none, 00 where all
-- have one.
abbrev pub missing_at : ℕ → ℕ → ℕ → Bool
missing_at named w a = not (eqb (field 64 a 8 named) 0) && eqb (bit_and (field 64 a 8 w) (field 64 a 8 named)) 0

-- §3.11: refusal 7: some designator of the eight.
abbrev pub missing : ℕ → ℕ → Bool
missing named w =
    missing_at named w 0 || missing_at named w 8 || missing_at named w 16 || missing_at named w 24
    || missing_at named w 32 || missing_at named w 40 || missing_at named w 48 || missing_at named w 56

-- §12.8 to §12.15: the number of each refusal of an instruction.
abbrev pub refusal_number : Refusal → ℕ
refusal_number Refusal.NotThere = 4
refusal_number Refusal.NotListed = 5
refusal_number Refusal.NotZero = 6
refusal_number Refusal.NoMeaning = 7
refusal_number Refusal.Misaligned = 8
refusal_number Refusal.Short = 9
refusal_number Refusal.Outside = 10
refusal_number Refusal.Shared = 11

-- §3.13: refusals 5, 6 and 7 in this order, of a word and the row of its code.
abbrev pub decoded_at : ℕ → Option Row → Result Row Refusal
decoded_at w None = Err Refusal.NotListed
decoded_at w (Some r) =
    cond (not_zero r w) (Err Refusal.NotZero)
    (cond (missing (named_of r) w) (Err Refusal.NoMeaning) (Ok r))

-- §3.13: a word is listed, with its row, or refused.
unfoldable pub decoded : ℕ → Result Row Refusal
decoded w = decoded_at w (found (field 64 0 8 w))

-- Taken apart by what the decoding says: the parts of a listed word, or the refusal.
abbrev pub reading_at : ℕ → Result Row Refusal → Result Parts Refusal
reading_at w (Ok r) = Ok (parts_of w)
reading_at w (Err n) = Err n

-- §3.14: a word taken apart.
unfoldable pub reading : ℕ → Result Parts Refusal
reading w = reading_at w (decoded w)

-- Put together by what the decoding says: a listed word, or the refusal.
abbrev pub assembled_at : ℕ → Result Row Refusal → Result ℕ Refusal
assembled_at w (Ok r) = Ok w
assembled_at w (Err n) = Err n

-- §3.14: parts put together.
unfoldable pub assembled : Parts → Result ℕ Refusal
assembled p = assembled_at (joined p) (decoded (joined p))
