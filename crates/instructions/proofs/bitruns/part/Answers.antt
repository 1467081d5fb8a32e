-- `instructions::bitruns::part` meets its contract. Shifts to the left end and to the right are a field.
use Rattle.instructions.proofs.Wordwise.{shifted_part}
use Rattle.instructions.proofs.bitruns.part.Goals as goal

pub returns : goal.returns
returns c = let a = c.args in shifted_part a.w a.j a.n c.requires.1
