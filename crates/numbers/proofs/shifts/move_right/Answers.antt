-- `numbers::shifts::move_right` meets its contract.
use Prim.Native.Nat.{◌-◌, ◌^◌}
use native.Mathlib.Nat.{div-le_self}
use native.Mathlib.Omega.{arith}
use Rattle.numbers.proofs.Rotations.{moved_low, moved_high}
use Rattle.numbers.proofs.shifts.move_right.Goals as goal

pub overflow_sub-result-else-word-lt9223372036854775808 : goal.overflow_sub-result-else-word-lt9223372036854775808
overflow_sub-result-else-word-lt9223372036854775808 c = omega (arith, div-le_self (0xFFFF_FFFF_FFFF_FFFF - c.args.word) (2 ^ c.args.k))

pub returns-then-word-lt9223372036854775808 : goal.returns-then-word-lt9223372036854775808
returns-then-word-lt9223372036854775808 c = moved_low c.args.word c.args.k c.if-word-lt9223372036854775808.true

pub returns-else-word-lt9223372036854775808 : goal.returns-else-word-lt9223372036854775808
returns-else-word-lt9223372036854775808 c = moved_high c.args.word c.args.k c.if-word-lt9223372036854775808.false c.ranges.word.fits
