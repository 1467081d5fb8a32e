-- `runs::control::Control::step` meets its contract.
use mathlib.Core.Path.{sym, ◌∙◌}
use Rattle.runs.proofs.Turning.{turn_over, turn_wrong, turn_counted, may_goes}
use Rattle.runs.proofs.control.Control.step.Goals.{then-not-may_go-via-then-not-may_go, then-not-may_go-via-else-not-may_go+then-not-lengths_right}
use Rattle.runs.proofs.control.Control.step.Goals as goal

pub returns-then-not-may_go : goal.returns-then-not-may_go
returns-then-not-may_go c =
    elim c.then-not-may_go.branch [
      | then-not-may_go-via-then-not-may_go w ↦ turn_over _ (sym c.may_go.ensures ∙ w.if-not-may_go.true)
      | then-not-may_go-via-else-not-may_go+then-not-lengths_right w ↦ turn_wrong _ (sym w.lengths_right.ensures ∙ w.if-not-lengths_right.true)
    ]

pub returns : goal.returns
returns c =
    let m = may_goes c.args.self (sym c.may_go.ensures ∙ c.if-not-may_go.false) in
    rw c.counted.ensures
    (turn_counted _ _ _ _ c.perform_one-got.result m.0 m.1 (sym c.lengths_right.ensures ∙ c.if-not-lengths_right.false) c.perform_one-got.ensures)
