-- The row of a code has the kind of what the code means.
use mathlib.Core.Path.{sym, ap, ◌∙◌}
use Rattle.instructions.specs.Meanings.{goes_by_items}
use Rattle.instructions.specs.Table.{found}
use Rattle.instructions.specs.Instruction.{by_items}
use Rattle.instructions.proofs.TableRules.{its, its_none}
use Rattle.instructions.proofs.instruction.by_items.Goals as goal

pub returns-in-None : goal.returns-in-None
unfolding by_items
returns-in-None c = sym (ap goes_by_items (its_none _ (sym (ap found c.code_in.ensures) ∙ sym c.find.ensures ∙ c.in-None.is)))

pub returns-in-Some : goal.returns-in-Some
unfolding by_items
returns-in-Some c = c.has_items.ensures ∙ (its _ _ (sym (ap found c.code_in.ensures) ∙ sym c.find.ensures ∙ c.in-Some.is)).items
