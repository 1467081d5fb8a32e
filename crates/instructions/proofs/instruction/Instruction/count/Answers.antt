-- Three codes count by the lengths of R, S and T, any other by that of C.
use mathlib.Core.Path.{◌∙◌, ap}
use Rattle.fields.specs.declared.gathers.Rule.TheVariants as rule
use Rattle.fields.specs.declared.gathers.Runs.{Runs}
use Rattle.fields.specs.Gathers.{bit_items}
use Rattle.instructions.specs.Plan.{items_of}
use Rattle.instructions.specs.Planned.{plan_in}
use Rattle.instructions.proofs.Counting.{counted_at, length_counts}
use Rattle.instructions.proofs.instruction.Instruction.count.Goals as goal

pub returns-in-20 : goal.returns-in-20
unfolding items_of plan_in
returns-in-20 c = counted_at _ _ c.code_in.ensures c.in-20.is (c.items.ensures ∙ ap (λ (t : Runs). bit_items rule.Compress t) c.runs.ensures)

pub returns-in-21 : goal.returns-in-21
unfolding items_of plan_in
returns-in-21 c = counted_at _ _ c.code_in.ensures c.in-21.is (c.items-in-21.ensures ∙ ap (λ (t : Runs). bit_items rule.Merge t) c.runs-in-21.ensures)

pub returns-in-22 : goal.returns-in-22
unfolding items_of plan_in
returns-in-22 c = counted_at _ _ c.code_in.ensures c.in-22.is (c.items-in-22.ensures ∙ ap (λ (t : Runs). bit_items rule.Mask t) c.runs-in-22.ensures)

pub returns-in_default : goal.returns-in_default
returns-in_default c = length_counts _ _ c.code_in.ensures c.in_default.in_default-own.rest c.length_in.ensures
