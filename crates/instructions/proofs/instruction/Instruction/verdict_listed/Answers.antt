-- Each way out has passed the checks before it.
use mathlib.Core.Path.{sym, ◌∙◌}
use Rattle.std.proofs.lemmas.Result.{err_from_is_err_and}
use Rattle.instructions.proofs.VerdictJudged.{its_length, not_there, exit_word, field_word}
use Rattle.instructions.proofs.instruction.Instruction.verdict_listed.Goals as goal

pub returns-then-unfetched : goal.returns-then-unfetched
returns-then-unfetched c = not_there _ _ _ _ (c.long.ensures ∙ its_length _ c.requires) c.unfetched.ensures c.if-unfetched.true

pub returns-then-code_in-eq9 : goal.returns-then-code_in-eq9
returns-then-code_in-eq9 c =
    exit_word _ _ _ _ (c.long.ensures ∙ its_length _ c.requires) c.unfetched.ensures c.if-unfetched.false c.requires (sym c.code_in.ensures ∙ c.if-code_in-eq9.true)

pub returns-in_err-refusal : goal.returns-in_err-refusal
returns-in_err-refusal c =
    let p = err_from_is_err_and c.from_residual.result c.from_residual.ensures.1 in
    rw (p.1, p.2) (field_word _ _ _ _ (c.long.ensures ∙ its_length _ c.requires) c.unfetched.ensures c.if-unfetched.false c.requires (λ e. c.if-code_in-eq9.false (c.code_in.ensures ∙ e)) c.kind.ensures c.fields.ensures c.refusal.ensures c.in_err-refusal.was)

pub returns : goal.returns
returns c =
    field_word _ _ _ _ (c.long.ensures ∙ its_length _ c.requires) c.unfetched.ensures c.if-unfetched.false c.requires (λ e. c.if-code_in-eq9.false (c.code_in.ensures ∙ e)) c.kind.ensures c.fields.ensures c.refusal.ensures c.in_ok-refusal.was
