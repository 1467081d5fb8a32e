-- No bits, or not the registers', and the bytes up to the end are no more than those lent.
use Rattle.fields.proofs.Compared.{empty_inside, registers_outside, is_inside}
use Rattle.fields.proofs.extents.Field.inside.Goals as goal

pub returns-then-bits-eq0 : goal.returns-then-bits-eq0
returns-then-bits-eq0 c = empty_inside c.args.self _ c.if-bits-eq0.true

pub returns-then-base-lt-ORIGIN : goal.returns-then-base-lt-ORIGIN
returns-then-base-lt-ORIGIN c = registers_outside c.args.self _ c.if-bits-eq0.false c.if-base-lt-ORIGIN.true

pub returns-else-base-lt-ORIGIN : goal.returns-else-base-lt-ORIGIN
returns-else-base-lt-ORIGIN c = is_inside c.args.self c.args.lent.0 c.if-bits-eq0.false c.if-base-lt-ORIGIN.false
