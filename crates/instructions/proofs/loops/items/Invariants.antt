-- `instructions::loops::items` meets its contract. The invariant: the items before i are worked. One more is a turn (Turning.vector_turn).
use mathlib.Core.Path.{◌≡◌}
use Prim.Native.Nat.{ℕ, ◌+◌, ◌-◌, ◌*◌, ◌≤◌}
use lib.ListN.{length}
use Rattle.fields.specs.Bytes.{num, size}
use Rattle.numbers.specs.declared.flags.Made.{Made}
use Rattle.instructions.specs.Items.{worked, turns}
use Rattle.instructions.specs.Plan.{vector_shape}
use Rattle.instructions.specs.Private.Loops.{Makes}
use Rattle.instructions.proofs.loops.items.Given as goal

abbrev pub invariant-loop-i : goal.invariant-loop-i
invariant-loop-i g l =
    (l.fn.part.from ≤ l.i) × (l.i ≤ l.fn.part.from + l.fn.part.count) × (l.i-end ≡ l.fn.part.from + l.fn.part.count) × (length l.m ≡ length l.initial.m)
    × ((h : ℕ → ℕ → Made ℕ) → Makes (goal.F-post g l.made) h
    → worked (num l.m) l.f ≡ turns (vector_shape (g.A.Lane.source l.fn.at.a) (g.B.Lane.source l.fn.at.b) (g.Z.Gating.control l.fn.at.z) (8 * l.fn.at.c) (8 * g.row.WIDTH) h) (size l.initial.m) l.fn.part.from (l.i - l.fn.part.from) (worked (num l.initial.m) l.fn.part.flags))
