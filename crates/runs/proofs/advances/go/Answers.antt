use mathlib.Core.Path.{sym, ◌∙◌}
use Rattle.runs.proofs.Turning.{to_go_less, may_goes}
use Rattle.runs.proofs.advances.go.Goals as goal

pub loop-memory-smaller : goal.loop-memory-smaller
loop-memory-smaller c =
    let l = c.loop-memory in
    to_go_less _ _ (may_goes l.d (sym c.may_go.ensures ∙ c.loop-memory-test.true)).0 c.advance-d.ensures
