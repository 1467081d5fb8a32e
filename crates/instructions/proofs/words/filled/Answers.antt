use lib.Bits.{and_le_r}
use native.Mathlib.Omega.{arith}
use Rattle.instructions.proofs.words.filled.Goals as goal

-- src/words.rt:122:15
pub overflow_add-sum : goal.overflow_add-sum
overflow_add-sum c = omega (arith, and_le_r c.args.x 0x7F7F_7F7F_7F7F_7F7F)
