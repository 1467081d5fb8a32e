-- `instructions::bitruns::Weave::by_runs` meets its contract. The invariant: the cursor stands at the next item, and all before it are worked. A run more is that many items more (Weaving.weave_turn).
use mathlib.Core.Path.{◌≡◌}
use Prim.Native.Nat.{ℕ, ◌+◌, ◌-◌, ◌≤◌}
use lib.ListN.{length}
use Rattle.fields.specs.Bytes.{num, size}
use Rattle.instructions.specs.Items.{worked, turns}
use Rattle.instructions.specs.Private.Loops.{cursor_at, woven_shape}
use Rattle.instructions.proofs.bitruns.Weave.by_runs.Given as goal

abbrev pub invariant-loop-done : goal.invariant-loop-done
invariant-loop-done l =
    (l.done ≤ l.count) × (length l.m ≡ length l.initial.m) × (l.u ≡ cursor_at l.self (l.from + l.done)) × ((f : ℕ) → worked (num l.m) f ≡ turns (woven_shape l.self) (size l.initial.m) l.from l.done (worked (num l.initial.m) f))

abbrev pub decreases-loop-done : goal.decreases-loop-done
decreases-loop-done l = l.count - l.done
