-- `numbers::signs::signed` meets its contract.
use mathlib.Core.Path.{◌∙◌}
use Prim.Native.Nat.{◌+◌}
use native.Mathlib.Nat.{mod-lt}
use native.Mathlib.Omega.{arith}
use lib.Pow.{pow_pos}
use Rattle.numbers.proofs.Complements.{signed_raised}
use Rattle.numbers.proofs.Integers.{top, back}
use Rattle.numbers.proofs.signs.signed.Goals as goal

pub difference-requires : goal.difference-requires
difference-requires c = let t = top c.args.h c.requires.0 in
    let l = mod-lt (c.args.bits + c.power-top.result) (pow_pos (c.args.h + 1)) in
    (omega (arith, c.low-raised.ensures), omega arith)

pub returns : goal.returns
returns c = back _ c.difference.type_inv ∙ c.difference.ensures
    ∙ signed_raised c.args.h c.args.bits c.power-top.result c.low-raised.result c.power-top.ensures c.low-raised.ensures c.requires.1
