-- `runs::advances::pick_up` meets its contract.
use mathlib.Core.Path.{sym, ◌∙◌}
use Rattle.std.proofs.Math.Nat.{pos_of_ne-zero}
use Rattle.runs.proofs.Taking.{picks_2, picks_3, picks_0, picks_goes, picks_up}
use Rattle.runs.proofs.advances.pick_up.Goals as goal

pub returns-then-not-lengths_right : goal.returns-then-not-lengths_right
returns-then-not-lengths_right c = picks_2 _ _ _ _ (sym c.lengths_right.ensures ∙ c.if-not-lengths_right.true)

pub returns-then-not-goes_on : goal.returns-then-not-goes_on
returns-then-not-goes_on c =
    let goes = rw c.held-it.ensures at c.goes_on.ensures in
    picks_3 _ _ _ _ c.requires (sym c.lengths_right.ensures ∙ c.if-not-lengths_right.false) (sym goes ∙ c.if-not-goes_on.true)

pub returns-then-budget-eq0 : goal.returns-then-budget-eq0
returns-then-budget-eq0 c =
    let goes = rw c.held-it.ensures at c.goes_on.ensures in
    picks_0 _ _ _ _ c.requires (sym c.lengths_right.ensures ∙ c.if-not-lengths_right.false) (sym goes ∙ c.if-not-goes_on.false)

pub burst-requires : goal.burst-requires
burst-requires c =
    let goes = rw c.held-it.ensures at c.goes_on.ensures in
    rw c.held-it.ensures
    (picks_goes _ _ _ c.args.budget c.requires (sym c.lengths_right.ensures ∙ c.if-not-lengths_right.false) (sym goes ∙ c.if-not-goes_on.false))

pub returns : goal.returns
returns c =
    let goes = rw c.held-it.ensures at c.goes_on.ensures in
    picks_up _ _ _ _ c.requires (sym c.lengths_right.ensures ∙ c.if-not-lengths_right.false) (sym goes ∙ c.if-not-goes_on.false)
    (pos_of_ne-zero c.if-budget-eq0.false) _ _ (rw c.held-it.ensures at c.burst.ensures)
