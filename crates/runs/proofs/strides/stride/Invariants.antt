-- `runs::strides::stride` meets its contract.
use mathlib.Core.Path.{◌≡◌}
use Rattle.runs.specs.Steps.{lent_at, next, strides}
use Rattle.runs.proofs.strides.stride.Given as goal

abbrev pub invariant-loop-steps : goal.invariant-loop-steps
invariant-loop-steps l =
    (l.rec.mark ≡ 0)
    × (strides l.steps (lent_at l.initial.memory l.initial.registers l.initial.rec) ≡ next (lent_at l.memory l.registers l.rec))
