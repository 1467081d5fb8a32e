-- Of a listed word its row says whether it goes by items; any other is refused.
use mathlib.Core.Path.{sym, ap, ◌∙◌}
use Prim.Native.Nat.{ℕ}
use lib.Dec.{eqb}
use Rattle.instructions.specs.Instruction.{may_work}
use Rattle.instructions.proofs.VerdictSteps.{zero_ok, row_items, refused_no_work}
use Rattle.instructions.proofs.instruction.Instruction.may_work.Goals as goal

pub returns-in_default : goal.returns-in_default
returns-in_default c = refused_no_work _ _ _ _ c.decode.result c.decode.ensures c.in_default.not-Ok

pub returns-then-has_items : goal.returns-then-has_items
unfolding may_work
returns-then-has_items c =
    rw (sym (row_items _ (sym c.decode.ensures ∙ c.in-Ok.is)) ∙ sym c.has_items.ensures ∙ c.if-has_items.true)
    (c.is_ok.ensures.value ∙ sym (zero_ok c.verdict_listed.result) ∙ ap (λ (v : ℕ). eqb v 0) c.verdict_listed.ensures)

pub returns-else-has_items : goal.returns-else-has_items
unfolding may_work
returns-else-has_items c = rw (c.if-has_items.false, sym (row_items _ (sym c.decode.ensures ∙ c.in-Ok.is)) ∙ sym c.has_items.ensures ∙ c.if-has_items.false)
