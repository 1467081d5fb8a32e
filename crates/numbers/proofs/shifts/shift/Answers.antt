-- `numbers::shifts::shift` meets its contract.
use borrow.Author.Tests.{lt-ltb, le-ltb}
use Rattle.numbers.specs.Shift.{shift_of}
use Rattle.numbers.proofs.shifts.shift.Goals as goal

pub returns-then-by-lt64 : goal.returns-then-by-lt64
unfolding shift_of
returns-then-by-lt64 c = rw (← c.low-by.ensures, lt-ltb _ _ c.if-by-lt64.true) c.rotate.ensures

pub returns-then-by-lt193 : goal.returns-then-by-lt193
unfolding shift_of
returns-then-by-lt193 c = rw (← c.low-by.ensures, le-ltb _ _ c.if-by-lt64.false, lt-ltb _ _ c.if-by-lt193.true)

pub returns-else-by-lt193 : goal.returns-else-by-lt193
unfolding shift_of
returns-else-by-lt193 c = rw (← c.low-by.ensures, le-ltb _ _ c.if-by-lt64.false, le-ltb _ _ c.if-by-lt193.false) c.move_right.ensures
