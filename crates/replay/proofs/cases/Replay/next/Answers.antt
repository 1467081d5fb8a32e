-- The header is the first 72 bytes of the space.
use Rattle.std.proofs.Common.{sym, arith}
use lib.Seq.{length-take-le}
use Rattle.replay.proofs.cases.Replay.next.Goals as goal

pub slice_bounds-read_full-end-2 : goal.slice_bounds-read_full-end-2
slice_bounds-read_full-end-2 c = sym (length-take-le 72 c.args.self.now.space (omega arith))
