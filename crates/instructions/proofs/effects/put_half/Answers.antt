-- `instructions::effects::put_half`: one register is stored, and it is the one that was read.
use Rattle.instructions.proofs.effects.put_half.Goals as goal

pub returns : goal.returns
returns c = rw c.with_half.ensures
