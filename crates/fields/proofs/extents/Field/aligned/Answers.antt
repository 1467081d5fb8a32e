-- No bits, or the remainder by the unit's width.
use mathlib.Core.Path.{◌∙◌}
use borrow.Author.Tests.{eq-eqb}
use Rattle.fields.proofs.Compared.{empty_aligned, is_aligned}
use Rattle.fields.proofs.extents.Field.aligned.Goals as goal

pub returns-then-self-eq0 : goal.returns-then-self-eq0
returns-then-self-eq0 c = eq-eqb _ _ c.if-self-eq0.true ∙ empty_aligned c.args.self c.if-self-eq0.true

pub returns-else-self-eq0 : goal.returns-else-self-eq0
returns-else-self-eq0 c = is_aligned c.args.self _ c.if-self-eq0.false c.width.ensures.0
