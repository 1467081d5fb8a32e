-- A field, so many bits from an address on, and what refusals 8, 10 and 11 ask of it: sections 2 and 12 of docs/MACHINE.md.
use Rattle.std.specs.Prelude.{Bool, not, ◌&&◌, ◌||◌, ℕ, ◌+◌, ◌*◌, ◌%◌, eqb, ltb, leb}
use Rattle.fields.specs.declared.extents.Unit as U
use Rattle.fields.specs.declared.extents.Unit.TheVariants.{Bit, Byte, HalfWord, Word}
use Rattle.fields.specs.declared.extents.Field.{Field}
use Rattle.fields.specs.declared.units.BitAddress.{BitAddress}
use Rattle.fields.specs.Memory.{origin}
use Rattle.fields.specs.Units.{in_bits}

-- §2.1: the places by which a count in a unit is shifted.
abbrev pub unit_shift : U.Unit → ℕ
unit_shift Bit = 0
unit_shift Byte = 3
unit_shift HalfWord = 5
unit_shift Word = 6

-- §1.1, §2.1: the bits of a unit.
abbrev pub width_of : U.Unit → ℕ
width_of Bit = 1
width_of Byte = 8
width_of HalfWord = 32
width_of Word = 64

-- §2.6: a field of so many items of a unit, from an address on.
abbrev pub field_of : U.Unit → BitAddress → ℕ → Field
field_of u base items = record { base = base; bits = record { 0 = in_bits (unit_shift u) items }; unit = u }

-- §12.19: what stands for a field that is not there: one of no bits.
abbrev pub absent_field : Field
absent_field = record { base = record { 0 = 0 }; bits = record { 0 = 0 }; unit = Bit }

-- §2.6: one past the last bit, a plain sum.
abbrev pub end_of : Field → ℕ
end_of f = f.base.0 + f.bits.0

-- §12.19: a field of no bits passes all three, wherever it is.
abbrev pub empty : Field → Bool
empty f = eqb f.bits.0 0

-- §12.12: refusal 8 lets it pass: its base is a multiple of its unit's width.
unfoldable pub aligned : Field → Bool
aligned f = empty f || eqb (f.base.0 % width_of f.unit) 0

-- §12.14, §1.5: refusal 10 lets it pass: it lies wholly in a memory of n bytes.
unfoldable pub inside : Field → ℕ → Bool
inside f n = empty f || (leb origin f.base.0 && leb (end_of f) (origin + 8 * n))

-- §12.15: two fields have a bit in common.
unfoldable pub shares : Field → Field → Bool
shares f g = not (empty f) && (not (empty g) && (ltb f.base.0 (end_of g) && ltb g.base.0 (end_of f)))

-- §12.20: both are of words, and they begin at the same address.
unfoldable pub in_place : Field → Field → Bool
in_place f g = eqb (width_of f.unit) (width_of g.unit) && (eqb (width_of f.unit) 64 && eqb f.base.0 g.base.0)
