-- `instructions::bitruns::piece` meets its contract. A quotient and a remainder.
use mathlib.Core.Path.{ap}
use Prim.Native.Nat.{ℕ, ◌/◌, ◌%◌, ◌^◌}
use native.Mathlib.Omega.{arith}
use lib.Pow.{pow_pos}
use Rattle.std.proofs.lemmas.Nat.{one_shl}
use Rattle.instructions.proofs.bitruns.piece.Goals as goal

pub nonzero_rem-result : goal.nonzero_rem-result
nonzero_rem-result c = rw (one_shl c.args.n 64 (omega arith)) (pow_pos c.args.n)

pub returns : goal.returns
returns c = let a = c.args in ap (λ (y : ℕ). a.x / 2 ^ a.right % y) (one_shl a.n 64 (omega arith))
