-- `numbers::shifts::rotate` meets its contract.
use mathlib.Core.Path.{◌∙◌, sym, ap}
use Rattle.numbers.proofs.Rotations.{rotated_zero, rotated_or}
use Rattle.numbers.specs.Shift.{rotated}
use Rattle.numbers.proofs.shifts.rotate.Goals as goal

pub returns-then-k-eq0 : goal.returns-then-k-eq0
returns-then-k-eq0 c = sym (ap (rotated c.args.word) c.if-k-eq0.true ∙ rotated_zero c.args.word c.ranges.word.fits)

pub returns-else-k-eq0 : goal.returns-else-k-eq0
returns-else-k-eq0 c = rotated_or c.args.word c.args.k c.requires c.ranges.word.fits
