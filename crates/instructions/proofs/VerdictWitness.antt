-- Verdicts computed of the definitions: every number that can be given, and every kind of instruction.
use mathlib.Core.Path.{◌≡◌, refl}
use mathlib.Core.List.{List, [], ◌∷◌}
use Prim.Native.Nat.{ℕ}
use Rattle.numbers.specs.Twos.{signed_at}
use Rattle.numbers.specs.Number.{coefficient_at}
use Rattle.fields.specs.Extents.{aligned, inside, shares, in_place}
use Rattle.fields.specs.Gathers.{furthest}
use Rattle.instructions.specs.declared.operands.Operands.{Operands}
use Rattle.instructions.specs.Table.{found, meaning_of}
use Rattle.instructions.specs.Words.{not_zero}
use Rattle.instructions.specs.Meanings.{less}
use Rattle.instructions.specs.Branches.{taken_of}
use Rattle.instructions.specs.Layout.{source_of, short_of, control_of, vector_of, zeros_of, of_kind, fields_of}
use Rattle.instructions.specs.Fetch.{long_in, there, unfetched_at}
use Rattle.instructions.specs.Verdict.{misaligned, outside, overlapping, verdict_of}

-- P, a word, its operands, the memory's length in bytes, the verdict
pub record Row : Type 0 where
  pub p : ℕ
  pub word : ℕ
  pub operands : Operands
  pub bytes : ℕ
  pub answer : ℕ

abbrev row : ℕ → ℕ → Operands → ℕ → ℕ → Row
row p w o n a = record { p = p; word = w; operands = o; bytes = n; answer = a }

-- G X A Y B Z C, of which R S T are the first three
abbrev ops : ℕ → ℕ → ℕ → ℕ → ℕ → ℕ → ℕ → Operands
ops g x a y b z c = record { g = g; x = x; a = a; y = y; b = b; z = z; c = c }

abbrev zeros : Operands
zeros = ops 0 0 0 0 0 0 0

abbrev pub Holds : Row → Type 0
Holds r = verdict_of r.p r.word r.operands r.bytes ≡ r.answer

abbrev pub Each : List Row → Type 0
Each [] = Unit {0}
Each (r ∷ rs) = Holds r × Each rs

abbrev pub witnesses : List Row
witnesses =
    -- a register instruction
    row 0x4000 0x6301_0203_0000_0000 zeros 64 0 ∷
    row 0x4000 0x7A01_0002_0000_0000 zeros 64 0 ∷
    -- 4: below memory, past its end, its second half past its end, but not of an unlisted code
    row 0x3FE0 0x6301_0203_0000_0000 zeros 64 4 ∷
    row 0x4200 0x6301_0203_0000_0000 zeros 64 4 ∷
    row 0x41E0 0x6301_0203_0000_0000 zeros 64 0 ∷
    row 0x41E0 0x8300_0001_0002_0003 zeros 64 4 ∷
    row 0x41E0 0x83FF_0001_0002_0003 zeros 64 4 ∷
    row 0x41E0 0xFF00_0000_0000_0000 zeros 64 5 ∷
    row 0x41C0 0x8300_0001_0002_0003 zeros 64 0 ∷
    -- 5
    row 0x4000 0x0001_0203_0000_0000 zeros 64 5 ∷
    -- 6
    row 0x4000 0x6301_0203_0000_0001 zeros 64 6 ∷
    row 0x4000 0x8340_0001_0002_0003 zeros 64 6 ∷
    row 0x4000 0x8301_0001_0002_0003 zeros 64 6 ∷
    row 0x4000 0x0900_0001_0000_0000 zeros 64 6 ∷
    -- 7, after 6
    row 0x4000 0x6301_0003_0000_0000 zeros 64 7 ∷
    row 0x4000 0x7601_0001_0000_0000 zeros 64 7 ∷
    row 0x4000 0x6300_0003_0000_0001 zeros 64 6 ∷
    row 0x4000 0x7601_0002_0000_0000 zeros 64 0 ∷
    -- 1
    row 0x4000 0x0900_0000_0000_0000 zeros 64 1 ∷
    row 0x4200 0x0900_0000_0000_0000 zeros 64 4 ∷
    -- 12, 13: the last byte, one more, a byte off, the registers; an address that wraps
    row 0x4000 0x1201_0203_0000_0000 (ops 0x4000 0x3F 0 0 0 0 0) 64 0 ∷
    row 0x4000 0x1201_0203_0000_0000 (ops 0x4000 0x40 0 0 0 0 0) 64 10 ∷
    row 0x4000 0x1301_0203_0000_0000 (ops 0x4001 0 0 0 0 0 0) 64 8 ∷
    row 0x4000 0x1301_0203_0000_0000 (ops 0x3FF8 0 0 0 0 0 0) 64 10 ∷
    row 0x4000 0x1301_0203_0000_0000 (ops 0x4008 0xFFFF_FFFF_FFFF 0 0 0 0 0) 64 0 ∷
    -- 7E, 7F
    row 0x4000 0x7E01_0203_0000_0000 (ops 0x4000 7 0 0 0 0 0) 64 0 ∷
    row 0x4000 0x7E01_0203_0000_0000 (ops 0x4000 8 0 0 0 0 0) 64 10 ∷
    row 0x4000 0x7F01_0203_0000_0000 (ops 0x4020 0 0 0 0 0 0) 64 8 ∷
    row 0x4000 0x7F01_0203_0000_0000 (ops 0x21 0 0 0 0 0 0) 64 8 ∷
    -- 14: S has no field; R to the last bit read; shared bits; no items
    row 0x4000 0x1401_0203_0000_0000 (ops 0x0002_0000_0000_4000 0x0001_0000_0000_0005 0x0005_0000_0000_4008 0 0 0 0) 64 0 ∷
    row 0x4000 0x1401_0203_0000_0000 (ops 0x0002_0000_0000_41F9 0x0001_0000_0000_0005 0x0005_0000_0000_4008 0 0 0 0) 64 0 ∷
    row 0x4000 0x1401_0203_0000_0000 (ops 0x0002_0000_0000_41FA 0x0001_0000_0000_0005 0x0005_0000_0000_4008 0 0 0 0) 64 10 ∷
    row 0x4000 0x1401_0203_0000_0000 (ops 0x0002_0000_0000_4000 0x0001_0000_0000_0005 0x0005_0000_0000_4006 0 0 0 0) 64 11 ∷
    row 0x4000 0x1401_0203_0000_0000 (ops 0x0002_0000_0000_4000 0x0001_0000_0000_0005 0x0005_0000_0000_4007 0 0 0 0) 64 0 ∷
    row 0x4000 0x1401_0203_0000_0000 (ops 1 0x0001_0000_0000_0005 0x0005_0000_0000_0002 0 0 0 0) 64 0 ∷
    -- 15, 16: zeros for S; S outside, though nothing is read where n is at most r; shared bits
    row 0x4000 0x1501_0203_0000_0000 (ops 0x0002_0000_0000_4000 0x0001_0000_0000_0000 0x0006_0000_0000_4008 0 0 0 0) 64 0 ∷
    row 0x4000 0x1501_0203_0000_0000 (ops 0x0002_0000_0000_4000 0x0001_0000_0000_0001 0x0006_0000_0000_4008 0 0 0 0) 64 10 ∷
    row 0x4000 0x1501_0203_0000_0000 (ops 0x0006_0000_0000_4000 0x0001_0000_0000_0001 0x0006_0000_0000_4008 0 0 0 0) 64 0 ∷
    row 0x4000 0x1501_0203_0000_0000 (ops 0x0002_0000_0000_4000 0x0001_0000_0000_4010 0x0006_0000_0000_4003 0 0 0 0) 64 11 ∷
    row 0x4000 0x1501_0203_0000_0000 (ops 0x0002_0000_0000_4000 0x0001_0000_0000_4010 0x0006_0000_0000_4004 0 0 0 0) 64 0 ∷
    row 0x4000 0x1601_0203_0000_0000 (ops 0x0002_0000_0000_4000 0x0001_0000_0000_4010 0x0006_0000_0000_4004 0 0 0 0) 64 11 ∷
    row 0x4000 0x1601_0203_0000_0000 (ops 0x0002_0000_0000_4000 0x0001_0000_0000_4010 0x0006_0000_0000_4005 0 0 0 0) 64 0 ∷
    row 0x4000 0x1601_0203_0000_0000 (ops 0x0002_0000_0000_4000 1 0x0006_0000_0000_0001 0 0 0 0) 64 0 ∷
    -- 83, 87, 8A: in place; 8 before 9, 9 before 10, 10 before 11; broadcast; the end does not wrap; the control field
    row 0x4000 0x8300_0001_0002_0003 (ops 0 0 0x0002_0000_0000_4000 0 0x0002_0000_0000_4000 0 0x0002_0000_0000_4000) 64 0 ∷
    row 0x4000 0x8300_0001_0002_0003 (ops 0 0 0x0001_0000_0000_4000 0 0x0002_0000_0000_4000 0 0x0002_0000_0000_4020) 64 8 ∷
    row 0x4000 0x8700_0001_0002_0003 (ops 0 0 0x0001_0000_0000_4000 0 0x0002_0100_0000_0000 0 0x0002_0000_0000_4000) 64 9 ∷
    row 0x4000 0x8300_0001_0002_0003 (ops 0 0 0x0002_0000_0000_4000 0 0x0001_0000_0000_4000 0 0x0002_0000_0000_4000) 64 9 ∷
    row 0x4000 0x8A10_0001_0002_0003 (ops 0 0 1 0 0x0002_0000_0000_4000 0 0x0002_0000_0000_4000) 64 0 ∷
    row 0x4000 0x8A18_0001_0002_0003 (ops 0 0 1 0 1 0 0x0002_0000_0000_4000) 64 0 ∷
    row 0x4000 0x8300_0001_0002_0003 (ops 0 0 0x0002_0000_0000_41C0 0 0x0002_0000_0000_4000 0 0x0002_0000_0000_4180) 64 10 ∷
    row 0x4000 0x8300_0001_0002_0003 (ops 0 0 0x0002_0000_0000_4040 0 0x0002_0000_0000_4000 0 0x0002_0000_0000_4000) 64 11 ∷
    row 0x4000 0x8300_0001_0002_0003 (ops 0 0 0x0002_0000_0000_4000 0 0x0002_0000_0000_4040 0 0x0002_0000_0000_4000) 64 11 ∷
    row 0x4000 0x8300_0001_0002_0003 (ops 0 0 0x0002_FFFF_FFFF_FFC0 0 0x0002_0000_0000_4000 0 0x0002_0000_0000_4000) 64 10 ∷
    row 0x4000 0x8300_0001_0002_0403 (ops 0 0 0x0002_0000_0000_4000 0 0x0002_0000_0000_4000 0x4080 0x0002_0000_0000_4000) 64 0 ∷
    row 0x4000 0x8300_0001_0002_0403 (ops 0 0 0x0002_0000_0000_4000 0 0x0002_0000_0000_4000 0x407F 0x0002_0000_0000_4000) 64 11 ∷
    row 0x4000 0x8300_0001_0002_0403 (ops 0 0 0x0002_0000_0000_4000 0 0x0002_0000_0000_4000 0x41FF 0x0002_0000_0000_4000) 64 10 ∷
    row 0x4000 0x8300_0001_0002_0003 (ops 0 0 0x0002_0000_0000_0001 0 0x0002_0000_0000_0001 0 1) 64 0 ∷
    -- 90-92, 98: B is no source
    row 0x4000 0x9000_0001_0000_0003 (ops 0 0 0x0002_0000_0000_4000 0 0 0 0x0002_0000_0000_4000) 64 0 ∷
    row 0x4000 0x9100_0001_0000_0003 (ops 0 0 0x0001_0000_0000_4000 0 0 0 0x0002_0000_0000_4000) 64 9 ∷
    row 0x4000 0x9250_0001_0000_0403 (ops 0 0 3 0 0 0x4081 0x0002_0000_0000_4000) 64 0 ∷
    row 0x4000 0x9800_0001_0000_0003 (ops 0 0 0x0002_0000_0000_4040 0 0 0 0x0002_0000_0000_4000) 64 11 ∷
    -- 96, 97: C half words, and never in place
    row 0x4000 0x9600_0001_0000_0003 (ops 0 0 0x0002_0000_0000_4080 0 0 0 0x0002_0000_0000_4020) 64 0 ∷
    row 0x4000 0x9600_0001_0000_0003 (ops 0 0 0x0002_0000_0000_4080 0 0 0 0x0002_0000_0000_4010) 64 8 ∷
    row 0x4000 0x9700_0001_0000_0003 (ops 0 0 0x0002_0000_0000_4000 0 0 0 0x0002_0000_0000_4000) 64 11 ∷
    row 0x4000 0x9700_0001_0000_0003 (ops 0 0 0x0008_0000_0000_4000 0 0 0 0x0008_0000_0000_4200) 64 10 ∷
    -- B0-B5: a target that is no multiple of 32 is refused if it is taken
    row 0x4000 0xB000_0405_0602_0701 (ops 0 3 5 0 0x4010 8 0) 64 8 ∷
    row 0x4000 0xB000_0405_0602_0701 (ops 0 3 5 0 0x4010 9 0) 64 0 ∷
    row 0x4000 0xB100_0405_0602_0701 (ops 0 3 5 0 0x4010 9 0) 64 8 ∷
    row 0x4000 0xB100_0405_0602_0701 (ops 0 3 5 0 0x4010 8 0) 64 0 ∷
    row 0x4000 0xB200_0405_0602_0701 (ops 0 0 0xFFFF_FFFF_FFFF 0 0x4010 0 0) 64 0 ∷
    row 0x4000 0xB208_0405_0602_0701 (ops 0 0 0xFFFF_FFFF_FFFF 0 0x4010 0 0) 64 8 ∷
    row 0x4000 0xB300_0405_0602_0701 (ops 0 0 0xFFFF_FFFF_FFFF 0 0x4010 0 0) 64 8 ∷
    row 0x4000 0xB308_0405_0602_0701 (ops 0 0 0xFFFF_FFFF_FFFF 0 0x4010 0 0) 64 0 ∷
    row 0x4000 0xB400_0405_0602_0701 (ops 0 1 0xFFFF_FFFF_FFFF 0 0x4010 0 0) 64 8 ∷
    row 0x4000 0xB500_0405_0602_0701 (ops 0 0 0xFFFF_FFFF_FFFF 0 0x4010 0 0) 64 0 ∷
    row 0x4000 0xB508_0405_0602_0701 (ops 0 0 0xFFFF_FFFF_FFFF 0 0x4010 0 0) 64 8 ∷
    row 0x4000 0xB000_0405_0602_0701 (ops 0 0 5 1 0x4000 5 0) 64 0 ∷
    row 0x4000 0xB000_0405_0602_0701 (ops 0 0 5 1 0 5 0) 64 0 ∷
    -- F8: the lesser length is read; an empty source; a byte off; shared bits; X and Z bytes
    row 0x4000 0xF800_0001_002E_0003 (ops 0 0 0x0002_0000_0000_4000 0 0 0 0x0005_0000_0000_4080) 64 0 ∷
    row 0x4000 0xF800_0001_002E_0003 (ops 0 0 1 0 0 0 0x0005_0000_0000_4080) 64 0 ∷
    row 0x4000 0xF800_0001_002E_0003 (ops 0 0 0x0001_0000_0000_4001 0 0 0 0x0005_0000_0000_4080) 64 8 ∷
    row 0x4000 0xF800_0001_002E_0003 (ops 0 0 0x0009_0000_0000_4060 0 0 0 0x0005_0000_0000_4080) 64 11 ∷
    row 0x4000 0xF800_0001_002E_0003 (ops 0 0 0x0009_0000_0000_4058 0 0 0 0x0005_0000_0000_4080) 64 0 ∷
    row 0x4000 0xF800_0001_002E_0003 (ops 0 0 0x0002_0000_0000_4000 0 0 0 0x0005_0000_0000_41E0) 64 10 ∷
    row 0x4000 0xF800_0401_002E_0503 (ops 0 5 0x0002_0000_0000_4000 0 0 0x10 0x0005_0000_0000_4000) 64 0 ∷
    row 0x4000 0xF800_0401_002E_0503 (ops 0 5 0x0002_0000_0000_4000 0 0 0x3C 0x0005_0000_0000_4000) 64 10 ∷
    []

pub witnesses_hold : Each witnesses
unfolding verdict_of long_in there unfetched_at found meaning_of not_zero fields_of of_kind vector_of source_of short_of control_of zeros_of furthest taken_of less coefficient_at signed_at aligned inside shares in_place misaligned outside overlapping
witnesses_hold = (refl, (refl, (refl, (refl, (refl, (refl, (refl, (refl, (refl, (refl, (refl, (refl, (refl, (refl, (refl, (refl, (refl, (refl, (refl, (refl, (refl, (refl, (refl, (refl, (refl, (refl, (refl, (refl, (refl, (refl, (refl, (refl, (refl, (refl, (refl, (refl, (refl, (refl, (refl, (refl, (refl, (refl, (refl, (refl, (refl, (refl, (refl, (refl, (refl, (refl, (refl, (refl, (refl, (refl, (refl, (refl, (refl, (refl, (refl, (refl, (refl, (refl, (refl, (refl, (refl, (refl, (refl, (refl, (refl, (refl, (refl, (refl, (refl, (refl, (refl, (refl, (refl, (refl, (refl, (refl, (refl, (refl, (refl, (refl, (refl, (refl, tt))))))))))))))))))))))))))))))))))))))))))))))))))))))))))))))))))))))))))))))))))))))
