-- `instructions::effects::with_half`: a number's last bit says which half is written; the other is a quotient or a remainder by 2^32.
use mathlib.Core.Path.{◌≡◌}
use Prim.Native.Nat.{◌%◌}
use native.Mathlib.Omega.{arith}
use Rattle.instructions.proofs.effects.with_half.Goals as goal

pub returns-then-number-eq0 : goal.returns-then-number-eq0
returns-then-number-eq0 c = rw c.if-number-eq0.true (omega arith)

pub returns : goal.returns
returns c = let e : c.args.number % 2 ≡ 1 = omega arith in rw e (omega arith)
