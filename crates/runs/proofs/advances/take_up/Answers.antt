-- `runs::advances::take_up` meets its contract.
use Rattle.runs.proofs.Turning.{taken_begun}
use Rattle.runs.proofs.advances.take_up.Goals as goal

pub returns : goal.returns
returns c = taken_begun _ _ _ c.begin.ensures
