-- `runs::advances::advance` meets its contract.
use Rattle.runs.proofs.Turning.{advanced_counted}
use Rattle.runs.proofs.advances.advance.Goals as goal

pub returns : goal.returns
returns c =
    rw c.counted.ensures (advanced_counted _ _ _ _ c.perform-got.result c.requires.1 c.requires.0 c.requires.2 c.perform-got.ensures)
