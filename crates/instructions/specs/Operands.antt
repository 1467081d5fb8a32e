-- The parts of a word that name registers, and what these supply: sections 2 and 3 of docs/MACHINE.md. A word, with the first bit of each part:
--
--    |  F  |  G  |  X  |  A  |  Y  |  B  |  Z  |  C  |     formats 1, 3, C
--    |  F  |  R  |  S  |  T  |                             formats 4, 7, A (S zero)
--    0     8     16    24    32    40    48    56    64
use Rattle.std.specs.Prelude.{Bool, cond, List, ℕ, ◌+◌, eqb, get_or, Option, Some, None}
use Rattle.numbers.specs.Words.{low48}
use Rattle.fields.specs.declared.units.BitAddress.{BitAddress}
use Rattle.fields.specs.declared.extents.Unit as U
use Rattle.fields.specs.Field.{field}
use Rattle.fields.specs.Units.{in_bits, formed}
use Rattle.fields.specs.Extents.{unit_shift}
use Rattle.instructions.specs.declared.operands.Operands.{Operands}
use Rattle.instructions.specs.declared.table.Row.{Row}
use Rattle.instructions.specs.Meanings.{Meaning}
use Rattle.instructions.specs.Table.{found, meaning_of}

-- §3.1: F, the code.
abbrev pub code_in : ℕ → ℕ
code_in w = field 64 0 8 w

-- §3.8: the row of its code, if it has one.
abbrev pub found_in : ℕ → Option Row
found_in w = found (code_in w)

-- §3.8: what its code means.
abbrev pub meaning_in : ℕ → Meaning
meaning_in w = meaning_of (code_in w)

-- What is asked of a row; `else` where there is none.
abbrev pub row_says : {A : Type 0} → A → (Row → A) → Option Row → A
row_says else ask None = else
row_says else ask (Some r) = ask r

-- §3.5: bit k of G, from the left, is one.
abbrev pub g_bit : ℕ → ℕ → Bool
g_bit k w = eqb (field 64 (8 + k) 1 w) 1

-- §3.2: what the registers R, S and T of a 32-bit word supply; they have the places of G, X and A.
abbrev pub R : Operands → ℕ
R o = o.g

abbrev pub S : Operands → ℕ
S o = o.x

abbrev pub T : Operands → ℕ
T o = o.a

-- §3.6, §3.7: what designator t supplies: the word in that register, and for 00 a machine zero, whose low 48 are zero.
unfoldable pub supplied : List ℕ → ℕ → ℕ
supplied registers t = cond (eqb t 0) 0x8000_0000_0000_0000 (get_or registers t 0)

-- §3.6: what the seven designators of a word supply, all read before anything is written. Not every code uses all of them.
unfoldable pub gathered : ℕ → List ℕ → Operands
gathered w registers =
    record {
      g = supplied registers (field 64 8 8 w);
      x = supplied registers (field 64 16 8 w);
      a = supplied registers (field 64 24 8 w);
      y = supplied registers (field 64 32 8 w);
      b = supplied registers (field 64 40 8 w);
      z = supplied registers (field 64 48 8 w);
      c = supplied registers (field 64 56 8 w);
    }

-- ---- a register that places a field

-- §2.5: the length and the base that a descriptor has.
abbrev pub length_in : ℕ → ℕ
length_in d = field 64 0 16 d

abbrev pub base_in : ℕ → BitAddress
base_in d = record { 0 = low48 d }

-- §2.3, §2.4: the address so many units after the base in d, cut to 48 bits.
abbrev pub indexed : U.Unit → ℕ → ℕ → BitAddress
indexed u d index = record { 0 = formed d (in_bits (unit_shift u) index) }

-- §5.2: the address of a load or a store: R plus S bytes or words.
abbrev pub address_in : U.Unit → Operands → BitAddress
address_in u o = indexed u (R o) (S o)
