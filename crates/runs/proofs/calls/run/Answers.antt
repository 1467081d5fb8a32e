-- `runs::calls::run` meets its contract.
use Rattle.runs.proofs.Turning.{taken_ends}
use Rattle.runs.proofs.calls.run.Goals as goal

pub returns : goal.returns
returns c =
    rw c.finish.ensures (taken_ends _ _ _ _ c.take_up-c.ensures c.go.ensures)
