-- `instructions::bitruns::Periods::by_periods` meets its contract. The invariant: k times t periods are worked. A turn works t periods (Periodic.chunk_turn).
use mathlib.Core.Path.{◌≡◌}
use Prim.Native.Nat.{ℕ, ◌*◌}
use lib.ListN.{length}
use Rattle.fields.specs.Bytes.{num, size}
use Rattle.instructions.specs.Items.{worked, turns}
use Rattle.instructions.specs.Private.Loops.{period_bits, woven_shape}
use Rattle.instructions.proofs.bitruns.Periods.by_periods.Given as goal

abbrev pub invariant-loop-k : goal.invariant-loop-k
invariant-loop-k l =
    (length l.m ≡ length l.initial.m)
    × ((f : ℕ) → worked (num l.m) f ≡ turns (woven_shape l.self.weave) (size l.initial.m) l.from (l.k * (l.self.t * period_bits l.self.weave.period)) (worked (num l.initial.m) f))
