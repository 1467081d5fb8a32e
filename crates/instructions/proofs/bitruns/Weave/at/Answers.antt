-- `instructions::bitruns::Weave::at` meets its contract.
use mathlib.Core.Path.{refl}
use Rattle.instructions.specs.Private.Loops.{cursor_at}
use Rattle.instructions.proofs.bitruns.Weave.at.Goals as goal

pub returns : goal.returns
unfolding cursor_at
returns c = rw (c.bits.ensures, c.bits-2.ensures) refl
