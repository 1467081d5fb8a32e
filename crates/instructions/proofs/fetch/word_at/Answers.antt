-- What is there may be read; what is not reads as zero.
use mathlib.Core.Path.{sym, ◌∙◌}
use native.Mathlib.Omega.{arith}
use Rattle.instructions.specs.Fetch.{two_halves_at}
use Rattle.instructions.proofs.FetchPlaces.{there_aligned, left_half}
use Rattle.instructions.proofs.fetch.word_at.Goals as goal

pub read-requires : goal.read-requires
read-requires c = (omega arith, there_aligned _ _ 2 (omega arith) (omega arith) (sym c.there.ensures ∙ c.if-there.true))

pub returns-then-there : goal.returns-then-there
unfolding two_halves_at
returns-then-there c = rw (← c.there.ensures, c.if-there.true) c.read.ensures

pub read-requires-then-there-2 : goal.read-requires-then-there-2
read-requires-then-there-2 c = (omega arith, there_aligned _ _ 1 (omega arith) (omega arith) (sym c.there-2.ensures ∙ c.if-there-2.true))

pub returns-then-there-2 : goal.returns-then-there-2
unfolding two_halves_at
returns-then-there-2 c =
    rw (← c.there.ensures, c.if-there.false, ← c.there-2.ensures, c.if-there-2.true) (left_half c.args.memory.now c.args.p.0 _ c.read-then-there-2.ensures)

pub returns : goal.returns
unfolding two_halves_at
returns c = rw (← c.there.ensures, c.if-there.false, ← c.there-2.ensures, c.if-there-2.false)
