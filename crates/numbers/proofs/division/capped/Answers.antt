-- `numbers::division::capped` meets its contract.
use lib.Dec.{lit<}
use Rattle.numbers.proofs.Quotients.{far}
use Rattle.numbers.proofs.division.capped.Goals as goal

pub returns-else-k-lt62 : goal.returns-else-k-lt62
returns-else-k-lt62 c = (lit< tt, λ n p. far n c.args.k p c.if-k-lt62.false)
