-- A word is decoded once; one that is listed has its row.
use mathlib.Core.Bool.{Bool, not}
use mathlib.Core.Path.{sym, ap, ◌∙◌}
use lib.ListN.{length}
use Rattle.instructions.specs.declared.table.Kind.{Kind}
use Rattle.instructions.specs.Private.Inner.{one_step_of, cut_off}
use Rattle.instructions.proofs.VerdictSteps.{refused_no_step, not_there_no_step, listed_step}
use Rattle.instructions.proofs.instruction.Instruction.one_step.Goals as goal

pub returns-in_default : goal.returns-in_default
returns-in_default c = refused_no_step _ _ _ _ c.decode.result c.decode.ensures c.in_default.not-Ok

pub returns-then-not-cut_off : goal.returns-then-not-cut_off
returns-then-not-cut_off c =
    let a = c.args in
    c.one_step_of.ensures ∙ ap (λ (k : Kind). one_step_of k a.self.word a.self.operands (length a.memory.now)) c.kind.ensures
    ∙ listed_step _ _ _ _ _ c.requires _ (sym c.decode.ensures ∙ c.in-Ok.is) (ap (λ (l : Bool). cut_off a.self.p.0 l (length a.memory.now)) (sym c.long.ensures) ∙ sym c.cut_off.ensures ∙ c.if-not-cut_off.true)

pub returns-else-not-cut_off : goal.returns-else-not-cut_off
returns-else-not-cut_off c =
    let a = c.args in
    ap not c.if-not-cut_off.false
    ∙ not_there_no_step _ _ _ _ _ c.requires _ (sym c.decode.ensures ∙ c.in-Ok.is) (ap (λ (l : Bool). cut_off a.self.p.0 l (length a.memory.now)) (sym c.long.ensures) ∙ sym c.cut_off.ensures ∙ c.if-not-cut_off.false)
