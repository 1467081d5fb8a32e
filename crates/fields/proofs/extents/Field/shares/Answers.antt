-- The one that starts first reaches the start of the other.
use Rattle.fields.proofs.Compared.{first_empty, second_empty, starts_before, starts_after}
use Rattle.fields.proofs.extents.Field.shares.Goals as goal

pub returns-then-n-eq0 : goal.returns-then-n-eq0
returns-then-n-eq0 c = first_empty c.args.self c.args.other c.if-n-eq0.true

pub returns-then-m-eq0 : goal.returns-then-m-eq0
returns-then-m-eq0 c = second_empty c.args.self c.args.other c.if-n-eq0.false c.if-m-eq0.true

pub returns-then-a-b : goal.returns-then-a-b
returns-then-a-b c = starts_before c.args.self c.args.other c.if-n-eq0.false c.if-m-eq0.false c.if-a-b.true

pub returns-else-a-b : goal.returns-else-a-b
returns-else-a-b c = starts_after c.args.self c.args.other c.if-n-eq0.false c.if-m-eq0.false c.if-a-b.false
