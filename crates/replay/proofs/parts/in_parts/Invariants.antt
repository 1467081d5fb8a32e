-- Each turn makes one call more: what the calls came to stays what one call of as many steps comes to.
use mathlib.Core.Path.{◌≡◌}
use Prim.Native.Nat.{ℕ, ◌+◌, ◌-◌, ◌≤◌}
use Rattle.runs.specs.Steps.{State, lent_at}
use Rattle.runs.specs.Calls.{leaves, run}
use Rattle.replay.proofs.parts.in_parts.Given as goal

abbrev pub invariant-loop-k : goal.invariant-loop-k
invariant-loop-k l =
    (l.left ≤ l.initial.left)
    × ((j : ℕ) (s : State) → leaves (lent_at l.initial.memory l.initial.registers) l.initial.sum ≡ run j s → leaves (lent_at l.memory l.registers) l.sum ≡ run (j + (l.initial.left - l.left)) s)

abbrev pub decreases-loop-k : goal.decreases-loop-k
decreases-loop-k l = l.left
