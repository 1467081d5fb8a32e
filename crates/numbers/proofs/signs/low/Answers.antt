-- `numbers::signs::low` meets its contract.
use native.Mathlib.Omega.{arith}
use lib.Bits.{and_mask}
use lib.Pow.{pow_pos}
use Rattle.numbers.proofs.signs.low.Goals as goal

pub overflow_sub-result : goal.overflow_sub-result
overflow_sub-result c = omega (arith, pow_pos c.args.n)

pub returns : goal.returns
returns c = rw c.power.ensures (and_mask c.args.word c.args.n)
