-- `numbers::widths::Widths::join` meets its contract.
use mathlib.Core.Path.{◌∙◌, ap}
use Prim.Native.Nat.{◌+◌}
use native.Mathlib.Omega.{arith}
use Rattle.numbers.proofs.Complements.{bits_lt}
use Rattle.numbers.proofs.Integers.{back}
use Rattle.numbers.proofs.Joins.{beside}
use Rattle.numbers.specs.Number.{joined_at}
use Rattle.numbers.specs.Twos.{bits_at}
use Rattle.numbers.proofs.widths.Widths.join.Goals as goal

pub returns : goal.returns
unfolding joined_at
returns c = let x = c.bits.ensures ∙ ap (bits_at c.args.self.e) (back c.args.n.exponent (omega arith)) in
    let k = c.bits-2.ensures ∙ ap (bits_at c.args.self.h) (back c.args.n.coefficient (omega arith)) in
    rw (x, k)
    (beside (c.args.self.e + 1) (c.args.self.h + 1) _ _ (omega (arith, c.args.self.few)) (bits_lt c.args.self.e c.args.n.exponent) (bits_lt c.args.self.h c.args.n.coefficient))
