-- `runs::advances::go` meets its contract.
use mathlib.Core.Bool.{true}
use mathlib.Core.Path.{◌≡◌}
use lib.ListN.{length}
use Rattle.runs.proofs.Turning.{to_go}
use Rattle.runs.specs.Answers.{paused}
use Rattle.runs.specs.Steps.{lent_at}
use Rattle.runs.specs.Calls.{Sound}
use Rattle.runs.specs.Controls.{seen_at}
use Rattle.runs.specs.Private.Inner.{resume}
use Rattle.runs.proofs.advances.go.Given as goal

abbrev pub invariant-loop-memory : goal.invariant-loop-memory
invariant-loop-memory l =
    (length l.memory ≡ length l.initial.memory)
    × ((length l.registers ≡ length l.initial.registers)
    × ((resume (seen_at l.memory l.registers l.d) ≡ resume (seen_at l.initial.memory l.initial.registers l.initial.d))
    × (paused l.d.answer ≡ true → Sound (lent_at l.memory l.registers l.d.rec))))

abbrev pub decreases-loop-memory : goal.decreases-loop-memory
decreases-loop-memory l = to_go l.d
