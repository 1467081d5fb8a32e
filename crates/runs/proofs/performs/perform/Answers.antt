-- `runs::performs::perform` meets its contract.
use Rattle.runs.proofs.Soundness.{possible_marked}
use Rattle.runs.proofs.performs.perform.Goals as goal

pub go_on-requires : goal.go_on-requires
go_on-requires c =
    record { some = c.requires.0; lengths = c.requires.1.lengths; half_way = possible_marked _ _ _ c.requires.1.can c.if-rec-eq0.false }
