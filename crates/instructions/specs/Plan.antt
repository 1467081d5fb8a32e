-- A plan's items: how many there are, where each finds its sources and its control bit and puts its result, and what it makes. Sections 7 to 9 of
-- docs/MACHINE.md.
use Rattle.std.specs.Prelude.{cond, Option, Some, None, ℕ, ◌+◌, ◌*◌, ltb}
use Rattle.fields.specs.declared.gathers.Runs.{Runs}
use Rattle.fields.specs.Gathers.{SourceBit, of_r, of_s, compress_takes, merge_takes, mask_takes, bit_items}
use Rattle.instructions.specs.declared.items.Source.{Source}
use Rattle.instructions.specs.declared.items.Source.TheVariants.{Field, Value}
use Rattle.instructions.specs.declared.items.Gated.{Gated}
use Rattle.fields.specs.declared.gathers.Rule.{Rule}
use Rattle.fields.specs.declared.gathers.Rule.TheVariants.{Compress, Merge, Mask}
use Rattle.instructions.specs.declared.items.VectorPlan.{VectorPlan}
use Rattle.instructions.specs.declared.items.BitPlan.{BitPlan}
use Rattle.instructions.specs.declared.items.MovePlan.{MovePlan}
use Rattle.numbers.specs.declared.flags.Made.{Made}
use Rattle.instructions.specs.Meanings.{plain}
use Rattle.instructions.specs.Items.{Place, bits, fixed, Shape}

-- ---- vectors

-- §7.2, §7.4: item i of a source is a word of its field, or the register itself. The one definition of a source item.
abbrev pub source_item : Source → ℕ → Place
source_item (Field a) i = bits (a + i * 64)
source_item (Value v) i = fixed v

-- §7.5: control bit i; without a control field it is a one.
abbrev pub control_bit : Option Gated → ℕ → Place
control_bit None i = fixed 1
control_bit (Some z) i = bits (z.base + i)

-- §7.5: the control bit of an item that is stored: a one, or with G bit 1 a zero.
abbrev pub sense_of : Option Gated → ℕ
sense_of None = 1
sense_of (Some z) = cond z.ones 1 0

-- §7.7: a vector of words, its result items w bits wide.
abbrev pub vector_shape : Source → Source → Option Gated → ℕ → ℕ → (ℕ → ℕ → Made ℕ) → Shape
vector_shape a b z c w f =
    record {
      first = source_item a;
      second = source_item b;
      control = control_bit z;
      sense = sense_of z;
      unit = 64;
      result = c;
      width = w;
      makes = f;
    }

-- ---- bits and bytes

-- §8.1, §9.1: items of w bits, each taken from one place, and all stored.
abbrev pub taken_shape : ℕ → ℕ → (ℕ → Place) → Shape
taken_shape c w from =
    record {
      first = from;
      second = λ i. fixed 0;
      control = λ i. fixed 1;
      sense = 1;
      unit = w;
      result = c;
      width = w;
      makes = λ x y. plain x;
    }

-- §8.2: bit d of S, or zero.
abbrev pub second_bit : Option ℕ → ℕ → Place
second_bit (Some b) d = bits (b + d)
second_bit None d = fixed 0

-- §8.1: where the bit of R or of S is that is taken.
abbrev pub bit_of : ℕ → Option ℕ → SourceBit → Place
bit_of a b (of_r d) = bits (a + d)
bit_of a b (of_s d) = second_bit b d

-- §8.4, §8.5, §8.6: which bit each of the three takes for bit j of T.
abbrev pub taken_by : Rule → Runs → ℕ → SourceBit
taken_by Compress t j = compress_takes t j
taken_by Merge t j = merge_takes t j
taken_by Mask t j = mask_takes t j

-- §9.1, §9.3: byte i of the source, and past its length the fill byte.
abbrev pub byte_of : ℕ → ℕ → ℕ → ℕ → Place
byte_of a length fill i = cond (ltb i length) (bits (a + i * 8)) (fixed fill)

-- ---- plans

-- §10.2: where the items of an instruction are. A vector's are so many bits wide, and are made of two source items.
pub data Plan : Type 0 where
  vectors : VectorPlan → ℕ → (ℕ → ℕ → Made ℕ) → Plan
  bit_runs : BitPlan → Plan
  byte_move : MovePlan → Plan

-- §7.7, §8.1, §9.1: the items of a plan.
unfoldable pub shape_of : Plan → Shape
shape_of (vectors v w f) = vector_shape v.first v.second v.control v.result w f
shape_of (bit_runs b) = taken_shape b.result 1 (λ j. bit_of b.first b.second (taken_by b.rule b.runs j))
shape_of (byte_move v) = taken_shape v.result 8 (byte_of v.source v.length v.fill)

-- §7.1, §8.1, §9.1: how many items a plan has.
unfoldable pub items_of : Plan → ℕ
items_of (vectors v w f) = v.items
items_of (bit_runs b) = bit_items b.rule b.runs
items_of (byte_move v) = v.items
