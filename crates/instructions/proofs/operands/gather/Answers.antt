-- Three registers, and four more where the right half is not zero.
use Rattle.instructions.proofs.OperandsGathered.{long_gathered, short_gathered}
use Rattle.instructions.proofs.operands.gather.Goals as goal

pub returns-then-word-eq0 : goal.returns-then-word-eq0
returns-then-word-eq0 c = short_gathered c.args.word _ _ _ _ c.operand-g.ensures c.operand-x.ensures c.operand-a.ensures c.if-word-eq0.true

pub returns : goal.returns
returns c = long_gathered c.args.word _ _ _ _ c.operand-g.ensures c.operand-x.ensures c.operand-a.ensures _ _ _ _ c.operand-y.ensures c.operand-b.ensures c.operand-z.ensures c.operand-c.ensures
