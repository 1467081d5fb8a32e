-- `instructions::effects::apply`: case by case, what is stored is what the definition says, and the other side is as it was.
use mathlib.Core.Path.{refl}
use native.Mathlib.Omega.{arith}
use Rattle.instructions.proofs.effects.apply.Goals as goal

pub write-requires : goal.write-requires
write-requires c = (omega arith, omega arith, rw c.in-Byte.is at c.requires.1, omega arith)

pub write-requires-in-Word : goal.write-requires-in-Word
write-requires-in-Word c = (omega arith, omega arith, rw c.in-Word.is at c.requires.1, omega arith)

pub returns-in-Register : goal.returns-in-Register
returns-in-Register c = rw c.in-Register.is (record { as_long = refl; memory = refl; registers = refl })

pub returns-in-HalfRegister : goal.returns-in-HalfRegister
returns-in-HalfRegister c = rw c.in-HalfRegister.is (record { as_long = refl; memory = refl; registers = c.put_half.ensures })

pub returns-in-Byte : goal.returns-in-Byte
returns-in-Byte c = rw c.in-Byte.is (record { as_long = c.write.ensures.as_long; memory = c.write.ensures.holds; registers = refl })

pub returns-in-Word : goal.returns-in-Word
returns-in-Word c = rw c.in-Word.is (record { as_long = c.write-in-Word.ensures.as_long; memory = c.write-in-Word.ensures.holds; registers = refl })
