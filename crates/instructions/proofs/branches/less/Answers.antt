-- Signed numbers are compared as coefficients, which a signed local holds as they are.
use mathlib.Core.Path.{ap₂}
use lib.Signed.{lt_z}
use Rattle.instructions.proofs.Held.{held}
use Rattle.instructions.specs.Meanings.{less}
use Rattle.instructions.proofs.branches.less.Goals as goal

pub returns-then-unsigned : goal.returns-then-unsigned
unfolding less
returns-then-unsigned c = rw c.if-unsigned.true

pub returns-else-unsigned : goal.returns-else-unsigned
unfolding less
returns-else-unsigned c = rw c.if-unsigned.false (ap₂ lt_z (held _ _ c.from.ensures) (held _ _ c.from-else-unsigned.ensures))
