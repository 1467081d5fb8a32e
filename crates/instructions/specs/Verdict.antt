-- What refuses an instruction: refusals 4 to 11, and the exit's 1, as one list in their order. Section 12 of docs/MACHINE.md.
use Rattle.std.specs.Prelude.{Bool, true, false, cond, not, ◌&&◌, ◌||◌, List, [], ◌∷◌, ◌++◌, ℕ, ◌%◌, eqb, Option, Some, None, Result, Ok, Err}
use Rattle.fields.specs.declared.units.BitAddress.{BitAddress}
use Rattle.fields.specs.declared.extents.Field.{Field}
use Rattle.fields.specs.Extents.{aligned, inside, shares, in_place}
use Rattle.instructions.specs.declared.table.Row.{Row}
use Rattle.instructions.specs.declared.operands.Operands.{Operands}
use Rattle.instructions.specs.declared.layout.Fields.{Fields}
use Rattle.instructions.specs.declared.verdict.Stop.{Stop}
use Rattle.instructions.specs.Table.{named_of}
use Rattle.instructions.specs.Operands.{code_in, found_in, row_says}
use Rattle.instructions.specs.Words.{not_zero, missing, refusal_number}
use Rattle.instructions.specs.Layout.{fields_of}
use Rattle.instructions.specs.Fetch.{long_in, unfetched_at}

-- §12.17: what is judged: the word at P, the row of its code, its fields, and the memory's length in bytes.
pub record Case : Type 0 where
  pub p : ℕ
  pub word : ℕ
  pub row : Option Row
  pub fields : Fields
  pub bytes : ℕ

-- ---- refusals 4 to 7, and the exit: the word

-- §12.8: refusal 4: the word is not wholly in memory.
abbrev pub not_in_memory : Case → Bool
not_in_memory c = unfetched_at c.p (long_in c.word) c.bytes

-- §12.9: refusal 5: the code has no row.
abbrev pub not_listed : Case → Bool
not_listed c = row_says true (λ r. false) c.row

-- §12.10: refusal 6: a bit is one that must be zero.
abbrev pub stray_bit : Case → Bool
stray_bit c = row_says false (λ r. not_zero r c.word) c.row

-- §12.11: refusal 7: a designator has no meaning.
abbrev pub no_meaning : Case → Bool
no_meaning c = row_says false (λ r. missing (named_of r) c.word) c.row

-- §5.3, §12.5: answer 1: the code is 09; with operands it was refused 6 before.
abbrev pub at_exit : Case → Bool
at_exit c = eqb (code_in c.word) 0x09

-- ---- refusals 8 to 11: the fields

-- §12.12: a target that is no multiple of 32.
abbrev pub off_half_words : Option BitAddress → Bool
off_half_words None = false
off_half_words (Some a) = not (eqb (a.0 % 32) 0)

-- §12.12: refusal 8: a taken target is no multiple of 32, or a result or source does not begin at a multiple of its unit. Bits always do.
unfoldable pub misaligned : Fields → Bool
misaligned f = off_half_words f.target || (not (aligned f.result) || (not (aligned f.first) || not (aligned f.second)))

-- §12.14: refusal 10: some field is not wholly in memory.
unfoldable pub outside : Fields → ℕ → Bool
outside f n = not (inside f.result n) || (not (inside f.first n) || (not (inside f.second n) || not (inside f.control n)))

-- §12.20: a bit is shared, but for words that begin where words begin.
abbrev pub clash : Field → Field → Bool
clash result source = shares result source && not (in_place result source)

-- §12.15: refusal 11: the result clashes with a source, or shares a bit with the control field.
unfoldable pub overlapping : Fields → Bool
overlapping f = clash f.result f.first || (clash f.result f.second || shares f.result f.control)

-- ---- the list

-- A number of section 12, and when it is said.
pub record NumberedCheck : Type 0 where
  pub number : ℕ
  pub refuses : Case → Bool

-- The check of a number.
abbrev pub check : ℕ → (Case → Bool) → NumberedCheck
check n p = record { number = n; refuses = p }

-- §3.13: refusals 5 to 7 ask the word alone.
abbrev pub word_checks : List NumberedCheck
word_checks = check 5 not_listed ∷ check 6 stray_bit ∷ check 7 no_meaning ∷ []

-- §12.2, §12.13: refusals 8 to 11 ask its fields.
abbrev pub field_checks : List NumberedCheck
field_checks =
    check 8 (λ c. misaligned c.fields) ∷ check 9 (λ c. c.fields.short) ∷
    check 10 (λ c. outside c.fields c.bytes) ∷ check 11 (λ c. overlapping c.fields) ∷ []

-- §12.2: the order in which a word is judged.
abbrev pub checks : List NumberedCheck
checks = check 4 not_in_memory ∷ (word_checks ++ (check 1 at_exit ∷ field_checks))

-- §12.2: the number of the first check that applies; 0 if none does.
abbrev pub first_number : List NumberedCheck → Case → ℕ
first_number [] c = 0
first_number (k ∷ ks) c = cond (k.refuses c) k.number (first_number ks c)

-- The word w at p with the operands o, in n bytes of memory.
abbrev pub case_of : ℕ → ℕ → Operands → ℕ → Case
case_of p w o n = record { p = p; word = w; row = found_in w; fields = fields_of w o; bytes = n }

-- §12.17: the verdict on it; what memory holds has no part in it.
unfoldable pub verdict_of : ℕ → ℕ → Operands → ℕ → ℕ
verdict_of p w o n = first_number checks (case_of p w o n)

-- ---- what the code says of it

-- §12.5, §12.8 to §12.15: the number of what ends a run at an instruction.
abbrev pub stop_number : Stop → ℕ
stop_number Stop.Exit = 1
stop_number (Stop.Refused why) = refusal_number why

-- The number of what checks say; 0 where they let pass.
abbrev pub said_number : {A E : Type 0} → (E → ℕ) → Result A E → ℕ
said_number number (Ok a) = 0
said_number number (Err e) = number e
