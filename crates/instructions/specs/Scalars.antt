-- The instructions of one step, by what they mean: sections 5 and 6 of docs/MACHINE.md. o has what the registers supply before the instruction.
use Rattle.std.specs.Prelude.{ℕ}
use Rattle.fields.specs.declared.extents.Unit.TheVariants as unit
use Rattle.fields.specs.Field.{field, store}
use Rattle.fields.specs.Memory.{field_in}
use Rattle.numbers.specs.declared.flags.Made.{Made}
use Rattle.instructions.specs.declared.operands.Operands.{Operands}
use Rattle.instructions.specs.declared.effects.Outcome.{Outcome}
use Rattle.instructions.specs.declared.effects.Effect.TheVariants.{Nothing, Register, HalfRegister, Byte, Word}
use Rattle.instructions.specs.Meanings.{plain, Act, to_t, to_half_t, loads_byte, loads_word, stores_byte, stores_word, Meaning, unlisted, exits, acts, branches, works}
use Rattle.instructions.specs.Operands.{meaning_in, R, S, T, address_in}
use Rattle.instructions.specs.Effects.{falls_through}
use Rattle.instructions.specs.Branches.{branch_of}

-- §3.2: the number T of the register or half word.
abbrev pub number_t : ℕ → ℕ
number_t w = field 64 24 8 w

-- §5.1: what is made goes to register T, or to half word T, and its flags are raised.
abbrev pub to_register : ℕ → Made ℕ → Outcome
to_register t r = falls_through (Register t r.item) r.flags

abbrev pub to_half_register : ℕ → Made ℕ → Outcome
to_half_register t r = falls_through (HalfRegister t r.item) r.flags

-- §5.4: load byte (code 12): the byte at the right end of T, zeros before it.
abbrev pub load_byte_of : ℕ → Operands → ℕ → ℕ → Outcome
load_byte_of t o n x = to_register t (plain (store 64 56 8 (field_in n x (address_in unit.Byte o).0 8) 0))

-- §5.5: store byte (code 13): the right byte of T.
abbrev pub store_byte_of : Operands → Outcome
store_byte_of o = falls_through (Byte (address_in unit.Byte o) (field 64 56 8 (T o))) 0

-- §5.20: load word (code 7E).
abbrev pub load_word_of : ℕ → Operands → ℕ → ℕ → Outcome
load_word_of t o n x = to_register t (plain (field_in n x (address_in unit.Word o).0 64))

-- §5.21: store word (code 7F).
abbrev pub store_word_of : Operands → Outcome
store_word_of o = falls_through (Word (address_in unit.Word o) (T o)) 0

-- §5.1: what a register instruction comes to, in a memory of n bytes that is the number x.
abbrev pub outcome_of : Act → ℕ → Operands → ℕ → ℕ → Outcome
outcome_of (to_t f) w o n x = to_register (number_t w) (f (R o) (S o))
outcome_of (to_half_t f) w o n x = to_half_register (number_t w) (f (R o) (S o))
outcome_of loads_byte w o n x = load_byte_of (number_t w) o n x
outcome_of loads_word w o n x = load_word_of (number_t w) o n x
outcome_of stores_byte w o n x = store_byte_of o
outcome_of stores_word w o n x = store_word_of o

-- The same of any meaning; what is no register instruction and no branch has no effect here.
abbrev pub outcome_in : Meaning → ℕ → Operands → ℕ → ℕ → Outcome
outcome_in unlisted w o n x = falls_through Nothing 0
outcome_in exits w o n x = falls_through Nothing 0
outcome_in (acts a) w o n x = outcome_of a w o n x
outcome_in (branches c) w o n x = branch_of w o
outcome_in (works k) w o n x = falls_through Nothing 0

-- The same of a word, by what its code means.
unfoldable pub scalar_of : ℕ → Operands → ℕ → ℕ → Outcome
scalar_of w o n x = outcome_in (meaning_in w) w o n x
