use Rattle.instructions.proofs.WordsFilled.{filled_missing}
use Rattle.instructions.proofs.words.lacks.Goals as goal

-- src/words.rt:127:1
pub returns : goal.returns
returns c = filled_missing _ _ c.args.named c.args.word c.filled.ensures c.filled-2.ensures
