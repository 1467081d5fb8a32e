-- The plan of a vector, bit or move instruction, from its word and operands alone, with places counted in bits from the start of memory: sections 7
-- to 9 of docs/MACHINE.md.
use Rattle.std.specs.Prelude.{Bool, true, false, cond, Option, Some, None, not, ◌||◌, ℕ, ◌-◌, eqb}
use Rattle.numbers.specs.Words.{low48}
use Rattle.fields.specs.Field.{field}
use Rattle.fields.specs.Memory.{origin}
use Rattle.instructions.specs.declared.operands.Operands.{Operands}
use Rattle.instructions.specs.declared.items.Source.{Source}
use Rattle.instructions.specs.declared.items.Source.TheVariants.{Field, Value}
use Rattle.instructions.specs.declared.items.Gated.{Gated}
use Rattle.instructions.specs.declared.items.VectorPlan.{VectorPlan}
use Rattle.instructions.specs.declared.items.BitPlan.{BitPlan}
use Rattle.instructions.specs.declared.items.MovePlan.{MovePlan}
use Rattle.fields.specs.declared.gathers.Rule.{Rule}
use Rattle.instructions.specs.Meanings.{plain, Work, gathers, each_of_a_b, each_of_a, half_of_a, moves, Meaning, unlisted, exits, acts, branches, works}
use Rattle.instructions.specs.Operands.{g_bit, R, S, T, length_in, indexed}
use Rattle.instructions.specs.Plan.{Plan, vectors, bit_runs, byte_move}
use Rattle.instructions.specs.Layout.{runs_of}
use Rattle.fields.specs.declared.extents.Unit.TheVariants.{Byte}

-- §1.4: the bits of memory left of an address.
abbrev pub place_of : ℕ → ℕ
place_of a = a - origin

-- §7.3, §7.4: a source: words from its base on, or the register itself.
abbrev pub source_in : Bool → ℕ → Source
source_in broadcast d = cond broadcast (Value d) (Field (place_of (low48 d)))

-- §7.5: no control field with Z 00, else its base and which control bit stores.
abbrev pub control_in : ℕ → ℕ → Option Gated
control_in w z = cond (eqb (field 64 48 8 w) 0) None (Some (record { base = place_of (low48 z); ones = not (g_bit 1 w) }))

-- §7.1: a vector of its word and operands; `alone` where A is the only source.
abbrev pub vector_in : Bool → ℕ → Operands → VectorPlan
vector_in alone w o =
    record {
      first = source_in (g_bit 3 w) o.a;
      second = source_in (alone || g_bit 4 w) o.b;
      control = control_in w o.z;
      result = place_of (low48 o.c);
      items = length_in o.c;
    }

-- §8.2: S of merge and mask: its base, or zeros. (Compress takes no bit of it.)
abbrev pub second_in : ℕ → Option ℕ
second_in d = cond (eqb (low48 d) 0) None (Some (place_of (low48 d)))

-- §8.1: a bit instruction of its operands.
abbrev pub bits_in : Rule → Operands → BitPlan
bits_in rule o =
    record {
      rule = rule;
      first = place_of (low48 (R o));
      second = second_in (S o);
      result = place_of (low48 (T o));
      runs = runs_of o;
    }

-- §9.2, §9.3: a move of its word and operands.
abbrev pub move_in : ℕ → Operands → MovePlan
move_in w o =
    record {
      source = place_of (indexed Byte o.a o.x).0;
      length = length_in o.a;
      fill = field 64 40 8 w;
      result = place_of (indexed Byte o.c o.z).0;
      items = length_in o.c;
    }

-- §10.2: the plan of what goes by items. B is a source where items are made of A and B (§7.8, §7.9, §7.10), and C's items are words but for §7.14 and
-- §7.15.
abbrev pub plan_by : Work → ℕ → Operands → Plan
plan_by (gathers rule) w o = bit_runs (bits_in rule o)
plan_by (each_of_a_b f) w o = vectors (vector_in false w o) 64 f
plan_by (each_of_a f) w o = vectors (vector_in true w o) 64 (λ x y. f x)
plan_by (half_of_a f) w o = vectors (vector_in true w o) 32 (λ x y. f x)
plan_by moves w o = byte_move (move_in w o)

-- A plan for what does not go by items, where none is ever asked for: its items have no bits.
abbrev pub idle : ℕ → Operands → Plan
idle w o = vectors (vector_in true w o) 0 (λ x y. plain 0)

-- §10.2: the plan of a word, by what its code means.
unfoldable pub plan_in : Meaning → ℕ → Operands → Plan
plan_in unlisted w o = idle w o
plan_in exits w o = idle w o
plan_in (acts a) w o = idle w o
plan_in (branches c) w o = idle w o
plan_in (works k) w o = plan_by k w o
