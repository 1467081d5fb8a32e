-- One place is enough to ask for.
use Rattle.instructions.proofs.FetchPlaces.{long_unfetched, short_unfetched}
use Rattle.instructions.proofs.fetch.unfetched.Goals as goal

pub returns-then-long : goal.returns-then-long
returns-then-long c = rw (c.if-long.true, ← long_unfetched _ _, ← c.there.ensures)

pub returns : goal.returns
returns c = rw (c.if-long.false, ← short_unfetched _ _, ← c.there-2.ensures)
