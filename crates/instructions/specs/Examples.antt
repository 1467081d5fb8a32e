-- Examples as one table: 1 to 5, 7 and 9 to 14 of those that section 15 of docs/MACHINE.md counts. A row is an instruction, what it is given and what
-- it comes to by the definitions of this crate: the operands are gathered from the registers, of which the first are given, and memory is 8 bytes.
use Rattle.std.specs.Prelude.{◌≡◌, Bool, true, false, cond, List, [], ◌∷◌, ℕ, ◌+◌, ◌*◌, ◌^◌, Some, None}
use Rattle.numbers.specs.Flags.{flag}
use Rattle.fields.specs.Bytes.{num}
use Rattle.instructions.specs.declared.effects.Outcome.{Outcome}
use Rattle.instructions.specs.declared.effects.Effect.TheVariants.{Register, HalfRegister}
use Rattle.instructions.specs.Operands.{gathered}
use Rattle.instructions.specs.Effects.{falls_through}
use Rattle.instructions.specs.Scalars.{scalar_of}
use Rattle.instructions.specs.Items.{MemoryAndFlags, worked}
use Rattle.instructions.specs.Instruction.{count_of, whole_of}

-- What a row has.
pub data Example : Type 0 where
  of_contract : ℕ → ℕ → ℕ → ℕ → Example  -- codes 76, 77: the code, R, the half word that T becomes, the flags
  of_rounding : ℕ → ℕ → ℕ → ℕ → Example  -- codes 70, 71, 72: the code, R, the word that T becomes, the flags
  of_shift : ℕ → ℕ → ℕ → Example  -- code 8A: the items A, B and C
  of_bits : ℕ → ℕ → ℕ → ℕ → ℕ → ℕ → ℕ → Example  -- codes 14, 15, 16: the code, R's and S's bits from the left of a byte, r, s, n, T's bits likewise
  of_branch : ℕ → ℕ → ℕ → Bool → Example  -- codes B0, B3: the word, A, C, taken or not

-- §5.1: what a word comes to that takes one step.
abbrev pub outcome_at : ℕ → List ℕ → Outcome
outcome_at w registers = scalar_of w (gathered w registers) 8 0

-- §7.7: memory and flags after all items of a word, on the memory m.
abbrev pub worked_at : ℕ → List ℕ → ℕ → MemoryAndFlags
worked_at w registers m = whole_of w (gathered w registers) 8 (count_of w (gathered w registers)) (worked m 0)

-- §3.2: the word of a code of format A, with R 01 and T 04.
abbrev pub word_a : ℕ → ℕ
word_a code = code * 2 ^ 56 + 0x00_01_00_04_0000_0000

-- §3.2: the word of a code of format 7, with R 01, S 02 and T 03.
abbrev pub word7 : ℕ → ℕ
word7 code = code * 2 ^ 56 + 0x00_01_02_03_0000_0000

-- §2.5: a descriptor of its length and base.
abbrev pub descriptor : ℕ → ℕ → ℕ
descriptor length base = length * 2 ^ 48 + base

-- §1.6: memory that begins with three bytes; the others are zero.
abbrev pub three_bytes : ℕ → ℕ → ℕ → ℕ
three_bytes r s t = num (r ∷ s ∷ t ∷ 0 ∷ 0 ∷ 0 ∷ 0 ∷ 0 ∷ [])

-- What a row says. Code 8A has G bits 3 and 4, so that A and B are registers, and one item. Codes B0 and B3 have 4000 in B and 3 in Y, so that the
-- target is 4060.
abbrev pub Holds : Example → Type 0
Holds (of_contract code r t flags) = outcome_at (word_a code) (0 ∷ r ∷ []) ≡ falls_through (HalfRegister 4 t) flags
Holds (of_rounding code r t flags) = outcome_at (word_a code) (0 ∷ r ∷ []) ≡ falls_through (Register 4 t) flags
Holds (of_shift a b c) = worked_at 0x8A_18_00_01_00_02_00_03 (0 ∷ a ∷ b ∷ descriptor 1 0x4000 ∷ []) 0 ≡ worked c 0
Holds (of_bits code first second r s n t) =
    worked_at (word7 code) (0 ∷ descriptor r 0x4000 ∷ descriptor s 0x4008 ∷ descriptor n 0x4010 ∷ []) (three_bytes first second 0)
    ≡ worked (three_bytes first second t) 0
Holds (of_branch w a c taken) =
    outcome_at w (0 ∷ a ∷ 0x4000 ∷ 0 ∷ 3 ∷ []) ≡ record { effect = Register 3 c; flags = 0; target = cond taken (Some (record { 0 = 0x4060 })) None }

-- What all rows of a table say.
abbrev pub Each : List Example → Type 0
Each [] = Unit {0}
Each (r ∷ rs) = Holds r × Each rs

-- The rows, in the order of the examples' numbers.
abbrev pub examples : List Example
examples =
    of_contract 0x76 0x0000_000001000000 0x18000001 0
    ∷ of_contract 0x76 0x0000_FFFFFFFFFFFF 0x18FFFFFF 0
    ∷ of_contract 0x77 0x0000_FFFFFFFFFFFF 0x18000000 0
    ∷ of_contract 0x77 0x0000_000000800000 0x18000001 0
    ∷ of_contract 0x77 0x0000_FFFFFF800000 0x18000000 0
    ∷ of_contract 0x77 0x0000_7FFFFFFFFFFF 0x19400000 0
    ∷ of_contract 0x76 0x0057_7FFFFFFFFFFF 0x6F7FFFFF 0
    ∷ of_contract 0x77 0x0057_7FFFFFFFFFFF 0x70000000 (flag 42 + flag 46)
    ∷ of_rounding 0x70 0xFFFF_FFFFFFFFFFFD 0x0000_FFFFFFFFFFFF 0
    ∷ of_rounding 0x72 0xFFFF_FFFFFFFFFFFD 0x0000_FFFFFFFFFFFF 0
    ∷ of_rounding 0x71 0xFFFF_FFFFFFFFFFFD 0x0000_FFFFFFFFFFFE 0
    ∷ of_shift 0x8000000000000001 0x01 3
    ∷ of_shift 0x8000000000000001 0xFF 0xC000000000000000
    ∷ of_shift 0x8000000000000001 0x40 0x8000000000000001
    ∷ of_bits 0x14 0b10110100 0b00000000 2 1 5 0b10100_000
    ∷ of_bits 0x15 0b1011_0000 0b01_000000 2 1 6 0b100111_00
    ∷ of_bits 0x16 0b101101_00 0b010010_00 2 1 6 0b100100_00
    ∷ of_branch 0xB0_00_00_00_04_02_00_03 0 0x8000_000000000000 true
    ∷ of_branch 0xB3_00_00_01_04_02_00_03 0x0000_FFFFFFFFFFFF 0x0000_FFFFFFFFFFFF true
    ∷ of_branch 0xB3_08_00_01_04_02_00_03 0x0000_FFFFFFFFFFFF 0x0000_FFFFFFFFFFFF false
    ∷ []
