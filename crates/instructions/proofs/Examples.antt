-- The scope paper's examples hold of the definitions: one table, one statement, computed.
use mathlib.Core.Path.{refl}
use Rattle.numbers.specs.Twos.{signed_at}
use Rattle.numbers.specs.Number.{coefficient_at, exponent_at, joined_at}
use Rattle.numbers.specs.Whole.{brought_to_zero, whole_at}
use Rattle.numbers.specs.Contract.{narrowed, contracted_at, contract_of}
use Rattle.numbers.specs.Shift.{rotated, moved_right, shift_of}
use Rattle.instructions.specs.Table.{meaning_of}
use Rattle.instructions.specs.Operands.{supplied, gathered}
use Rattle.instructions.specs.Meanings.{less}
use Rattle.instructions.specs.Branches.{taken_of, branch_of}
use Rattle.instructions.specs.Scalars.{scalar_of}
use Rattle.instructions.specs.Items.{stored_at, made_at, item_at, flags_at}
use Rattle.instructions.specs.Plan.{shape_of, items_of}
use Rattle.instructions.specs.Planned.{plan_in}
use Rattle.instructions.specs.Instruction.{plan_of, whole_of}
use Rattle.instructions.specs.Examples.{Each, examples}

pub examples_hold : Each examples
unfolding signed_at coefficient_at exponent_at joined_at brought_to_zero whole_at narrowed contracted_at contract_of rotated moved_right shift_of meaning_of supplied gathered less taken_of branch_of scalar_of stored_at made_at item_at flags_at shape_of items_of plan_in plan_of whole_of
examples_hold = (refl, (refl, (refl, (refl, (refl, (refl, (refl, (refl, (refl, (refl, (refl, (refl, (refl, (refl, (refl, (refl, (refl, (refl, (refl, (refl, tt))))))))))))))))))))
