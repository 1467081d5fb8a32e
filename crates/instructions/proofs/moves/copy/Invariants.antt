-- `instructions::moves::copy` meets its contract. The invariant: the bytes before i are worked. One more is a turn (Turning.byte_turn).
use mathlib.Core.Path.{◌≡◌}
use Prim.Native.Nat.{ℕ, ◌+◌, ◌-◌, ◌*◌}
use lib.ListN.{length}
use Rattle.fields.specs.Bytes.{num, size}
use Rattle.instructions.specs.Items.{worked, turns, bits}
use Rattle.instructions.specs.Plan.{taken_shape}
use Rattle.instructions.proofs.moves.copy.Given as goal

abbrev pub invariant-loop-i : goal.invariant-loop-i
invariant-loop-i l =
    (length l.m ≡ length l.initial.m)
    × ((f : ℕ) → worked (num l.m) f ≡ turns (taken_shape (8 * l.kc) 8 (λ i. bits (8 * l.k + i * 8))) (size l.initial.m) l.from (l.i - l.from) (worked (num l.initial.m) f))
