-- By rule: the cycles are those in which S is read.
use native.Mathlib.Omega.{arith}
use Rattle.fields.proofs.GatherMeaning.{merge_s_shape, mask_s_shape, given}
use Rattle.fields.proofs.gathers.Runs.of_s.Goals as goal
use Rattle.fields.proofs.gathers.Runs.of_s.Goals.{in-Merge, in-Mask}

pub returns : goal.returns
returns c =
    elim c.match-rule.branch [
      | in-Merge w ↦
          rw w.in-Merge.is (given (merge_s_shape c.args.self (omega arith)) _ _ (rw w.in-Merge.is at c.items-n.ensures) (rw w.stride-is at c.reach.ensures))
      | in-Mask w ↦
          rw w.in-Mask.is (given (mask_s_shape c.args.self (omega arith)) _ _ (rw w.in-Mask.is at c.items-n.ensures) (rw w.stride-is at c.reach.ensures))
    ]
