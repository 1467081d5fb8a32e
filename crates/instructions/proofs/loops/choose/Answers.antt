-- `instructions::loops::choose` meets its contract. All ones or none of a word: two cases.
use native.Mathlib.Omega.{arith}
use Rattle.instructions.proofs.Gates.{small, chosen}
use Rattle.instructions.proofs.loops.choose.Goals as goal

pub overflow_mul-k : goal.overflow_mul-k
overflow_mul-k c = omega (arith, small c.args.go c.requires)

pub returns : goal.returns
returns c =
    let args = c.args in
    let fits = c.ranges in
    chosen args.go args.new args.old c.requires fits.new.fits fits.old.fits
