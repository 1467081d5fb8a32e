-- `runs::performs::go_on` meets its contract.
use Rattle.runs.proofs.Performing.{held_goes, proceeds_held}
use Rattle.runs.proofs.performs.go_on.Goals as goal

pub burst-requires : goal.burst-requires
burst-requires c = rw c.held.ensures (held_goes _ _ _ c.requires.lengths c.requires.half_way)

pub returns : goal.returns
returns c = proceeds_held _ _ _ _ c.requires.half_way c.requires.some _ _ (rw c.held.ensures at c.burst.ensures)
