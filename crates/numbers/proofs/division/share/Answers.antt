-- `numbers::division::share` meets its contract.
use mathlib.Core.Path.{◌∙◌, ap}
use Prim.Native.Nat.{◌<◌, ◌^◌}
use native.Mathlib.Omega.{arith}
use lib.IntN.{pos}
use lib.Pow.{pow_pos, pow-lt}
use lib.Signed.{mag}
use mir.Facts.{to_z_pos, to_z-of_z}
use mir.Syntax.{w64}
use Rattle.numbers.proofs.Integers.{back}
use Rattle.numbers.proofs.Quotients.{share_of, mag_share}
use Rattle.numbers.proofs.division.share.Goals as goal

small : (c : goal.After-power-d) → c.power-d.result < 2 ^ 63
small c = rw c.power-d.ensures (pow-lt c.capped.ensures.0)

pub overflow_cast-result : goal.overflow_cast-result
overflow_cast-result c = record { sfits = small c }

pub nonzero_div-result : goal.nonzero_div-result
nonzero_div-result c = (
  omega (arith, pow_pos c.capped.result, c.power-d.ensures),
  rw (back c.args.z c.ranges.z.sfits, to_z_pos w64 (small c), share_of c.args.z c.power-d.result c.requires.0)
      (record { sfits = omega (arith, mag_share (mag c.args.z) c.power-d.result) }),
)

pub returns : goal.returns
returns c = to_z-of_z (nonzero_div-result c).1
    ∙ rw (back c.args.z c.ranges.z.sfits, to_z_pos w64 (small c), share_of c.args.z c.power-d.result c.requires.0, c.power-d.ensures)
    (ap pos (c.capped.ensures.1 (mag c.args.z) c.requires.1))
