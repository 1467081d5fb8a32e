-- `instructions::bitruns::Periods::of` meets its contract.
use native.Mathlib.Omega.{arith}
use Rattle.instructions.proofs.Periodic.{chunk_of}
use Rattle.instructions.proofs.bitruns.Periods.of.Goals as goal

pub invariant_of-result : goal.invariant_of-result
invariant_of-result c =
    record {
      fits = chunk_of c.args.weave.period c.widest-t.result c.requires.0 (omega arith) (omega arith) (omega arith) (omega arith);
      pieces = (rw c.bits.ensures at c.all_ones.ensures, rw c.bits-2.ensures at c.all_ones-2.ensures);
    }
