-- `instructions::bitruns::spread` meets its contract. The invariant: k pieces are in place.
use mathlib.Core.Path.{◌≡◌}
use Rattle.instructions.specs.Private.Loops.{spread_of}
use Rattle.instructions.proofs.bitruns.spread.Given as goal

abbrev pub invariant-loop-k : goal.invariant-loop-k
invariant-loop-k l = l.v ≡ spread_of l.x l.step l.n l.gap l.t l.k
