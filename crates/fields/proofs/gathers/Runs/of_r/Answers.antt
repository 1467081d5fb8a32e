-- By rule: the cycles are those in which R is read.
use native.Mathlib.Omega.{arith}
use Rattle.fields.proofs.GatherMeaning.{compress_shape, merge_r_shape, mask_r_shape, given}
use Rattle.fields.proofs.gathers.Runs.of_r.Goals as goal
use Rattle.fields.proofs.gathers.Runs.of_r.Goals.{in-Compress, in-Merge, in-Mask}

pub returns : goal.returns
returns c =
    elim c.match-rule.branch [
      | in-Compress w ↦
          rw w.in-Compress.is (given (compress_shape c.args.self (omega arith)) _ _ (rw w.in-Compress.is at c.items-n.ensures) (rw w.period-is at c.reach.ensures))
      | in-Merge w ↦
          rw w.in-Merge.is (given (merge_r_shape c.args.self (omega arith)) _ _ (rw w.in-Merge.is at c.items-n.ensures) (rw w.period-is at c.reach.ensures))
      | in-Mask w ↦
          rw w.in-Mask.is (given (mask_r_shape c.args.self (omega arith)) _ _ (rw w.in-Mask.is at c.items-n.ensures) (rw w.period-is at c.reach.ensures))
    ]
