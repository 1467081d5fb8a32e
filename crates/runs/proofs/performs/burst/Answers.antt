-- `runs::performs::burst` meets its contract.
use Rattle.runs.proofs.Performing.{goes_past}
use Rattle.runs.proofs.performs.burst.Goals as goal

pub after-requires : goal.after-requires
after-requires c = goes_past _ _ _ c.requires
