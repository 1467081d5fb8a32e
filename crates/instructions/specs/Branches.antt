-- Compare and branch (codes B0 to B5): section 6 of docs/MACHINE.md.
use Rattle.std.specs.Prelude.{Bool, false, cond, ℕ, Option, Some, None}
use Rattle.fields.specs.declared.units.BitAddress.{BitAddress}
use Rattle.fields.specs.Field.{field}
use Rattle.fields.specs.declared.extents.Unit.TheVariants.{HalfWord}
use Rattle.numbers.specs.Words.{sum_of}
use Rattle.instructions.specs.declared.operands.Operands.{Operands}
use Rattle.instructions.specs.declared.effects.Outcome.{Outcome}
use Rattle.instructions.specs.declared.effects.Effect.TheVariants.{Register}
use Rattle.instructions.specs.Meanings.{Meaning, unlisted, exits, acts, branches, works}
use Rattle.instructions.specs.Operands.{meaning_in, g_bit, indexed}

-- §6.5, §6.6, §6.7, §6.8, §6.9, §6.10: how a meaning compares, unsigned where u is true; one that is no branch never holds.
abbrev pub compares_by : Meaning → Bool → ℕ → ℕ → Bool
compares_by unlisted u m n = false
compares_by exits u m n = false
compares_by (acts a) u m n = false
compares_by (branches c) u m n = c u m n
compares_by (works k) u m n = false

-- §6.1: the low-48 sum of A and X.
abbrev pub branch_sum : Operands → ℕ
branch_sum o = sum_of o.a o.x

-- §6.2: whether the sum compares so with Z, unsigned with G bit 4.
unfoldable pub taken_of : ℕ → Operands → Bool
taken_of w o = compares_by (meaning_in w) (g_bit 4 w) (branch_sum o) o.z

-- §6.3: B plus Y half words.
abbrev pub target_of : Operands → BitAddress
target_of o = indexed HalfWord o.b o.y

-- §6.4: the target, where the branch is taken.
abbrev pub goes_to : ℕ → Operands → Option BitAddress
goes_to w o = cond (taken_of w o) (Some (target_of o)) None

-- §6.1, §6.4: the sum goes to C either way; P goes to the target where the branch is taken.
unfoldable pub branch_of : ℕ → Operands → Outcome
branch_of w o = record {
  effect = Register (field 64 56 8 w) (branch_sum o);
  flags = 0;
  target = goes_to w o;
}
