-- `instructions::bitruns::Periods::bits` meets its contract. The pieces of R, shifted, and those of S.
use Rattle.fields.specs.Bytes.{num, size}
use Rattle.instructions.proofs.Periodic.{alone_is, sum_is, sum_fits}
use Rattle.instructions.proofs.bitruns.Periods.bits.Goals as goal

pub overflow_add-result : goal.overflow_add-result
overflow_add-result c =
    let a = c.args in
    let q = rw c.bits-gap.ensures at c.pieces.ensures in
    let q' = rw c.bits-gap.ensures at c.pieces-in-Some.ensures in
    record { fits = sum_fits (size a.m.now) a.self.weave a.r a.s a.self.t (num a.m.now) c.run-x.result c.pieces.result c.args.self.fits c.run-x.ensures q c.run-y.result c.pieces-in-Some.result q' }

pub returns-in-Some : goal.returns-in-Some
returns-in-Some c =
    let a = c.args in
    let q = rw c.bits-gap.ensures at c.pieces.ensures in
    let q' = rw c.bits-gap.ensures at c.pieces-in-Some.ensures in
    sum_is (size a.m.now) a.self.weave a.r a.s a.self.t (num a.m.now) c.run-x.result c.pieces.result c.args.self.fits c.run-x.ensures q c.in-Some.b c.run-y.result c.pieces-in-Some.result c.in-Some.is c.run-y.ensures q'

pub returns-in-None : goal.returns-in-None
returns-in-None c =
    let a = c.args in
    alone_is (size a.m.now) a.self.weave a.r a.s a.self.t (num a.m.now) c.run-x.result c.pieces.result c.args.self.fits c.run-x.ensures (rw c.bits-gap.ensures at c.pieces.ensures) c.in-None.is
