-- `instructions::bitruns::all_ones` meets its contract. The pieces of ones.
use mathlib.Core.Path.{ap, ◌∙◌}
use Prim.Native.Nat.{ℕ, ◌-◌}
use native.Mathlib.Omega.{arith}
use lib.Pow.{pow_pos}
use Rattle.instructions.specs.Private.Loops.{spread_of}
use Rattle.std.proofs.lemmas.Nat.{one_shl}
use Rattle.instructions.proofs.bitruns.all_ones.Goals as goal

pub overflow_sub-end : goal.overflow_sub-end
overflow_sub-end c = rw (one_shl c.args.n 64 (omega arith)) (pow_pos c.args.n)

pub returns : goal.returns
returns c =
    let a = c.args in
    c.spread.ensures ∙ ap (λ (y : ℕ). spread_of (y - 1) 0 a.n a.gap a.t a.t) (one_shl a.n 64 (omega arith))
