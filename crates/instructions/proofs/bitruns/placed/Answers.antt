-- `instructions::bitruns::placed` meets its contract. The old bits are taken out and the new ones put in.
use Rattle.instructions.proofs.Wordwise.{placed_sub, placed_is, placed_fits}
use Rattle.instructions.proofs.bitruns.placed.Goals as goal

pub overflow_sub-result : goal.overflow_sub-result
overflow_sub-result c =
    let part = c.part in
    let args = c.args in
    let pre = c.requires in
    placed_sub args.w args.j args.n args.v part.result c.ranges.w.fits pre.1 pre.2 part.ensures

pub overflow_add-result : goal.overflow_add-result
overflow_add-result c =
    let part = c.part in
    let args = c.args in
    let pre = c.requires in
    record { fits = placed_fits args.w args.j args.n args.v part.result c.ranges.w.fits pre.1 pre.2 part.ensures }

pub returns : goal.returns
returns c =
    let part = c.part in
    let args = c.args in
    let pre = c.requires in
    placed_is args.w args.j args.n args.v part.result c.ranges.w.fits pre.1 pre.2 part.ensures
