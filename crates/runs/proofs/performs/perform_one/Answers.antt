-- `runs::performs::perform_one` meets its contract.
use mathlib.Core.Path.{refl, sym, ◌∙◌}
use Rattle.runs.proofs.Performing.{step_impossible}
use Rattle.runs.proofs.performs.perform_one.Goals as goal

pub returns : goal.returns
returns c = (step_impossible _ c.if-rec-eq0.false (sym c.half_done.ensures ∙ c.if-half_done.false), refl)
