-- Of a word that is not listed 4 comes first.
use mathlib.Core.Path.{sym, ◌∙◌}
use Rattle.instructions.proofs.VerdictJudged.{not_there, refused_word}
use Rattle.instructions.proofs.instruction.Instruction.verdict.Goals as goal

pub returns-then-unfetched : goal.returns-then-unfetched
returns-then-unfetched c = not_there _ _ _ _ c.is_long.ensures c.unfetched.ensures c.if-unfetched.true

pub returns-else-unfetched : goal.returns-else-unfetched
returns-else-unfetched c = refused_word _ _ _ _ c.is_long.ensures c.unfetched.ensures c.if-unfetched.false (sym c.decode.ensures ∙ c.in-Err.is)
