-- `runs::performs::begin` meets its contract.
use mathlib.Core.Path.{sym, ◌∙◌, ap}
use Prim.Native.Nat.{◌<◌}
use Rattle.std.proofs.Math.Nat.{pos_of_ne-zero}
use Rattle.std.proofs.lemmas.Result.{err_from_is_err_and}
use Rattle.runs.proofs.Numbered.{said_as}
use Rattle.runs.proofs.Performing.{fetched_past, items_left, performs_refused, proceeds_passed, proceeds_first}
use Rattle.runs.proofs.Soundness.{lengths_of}
use Rattle.runs.specs.Answers.{said_of}
use Rattle.runs.specs.Steps.{lent_at, items_at}
use Rattle.runs.proofs.performs.begin.Goals as goal

pub returns-in_err-verdict : goal.returns-in_err-verdict
returns-in_err-verdict c =
    let s = lent_at c.args.memory.now c.args.registers.now c.args.rec in
    let h = err_from_is_err_and c.from_residual.result c.from_residual.ensures.1 in
    let judged = rw (c.fetched-it.ensures, c.in_err-verdict.was) at c.verdict.ensures in
    rw h.1 (performs_refused s c.args.most h.0 c.requires.0.unmarked (ap said_of (sym judged) ∙ said_as _ h.0 h.2))

pub past-requires : goal.past-requires
past-requires c =
    let s = lent_at c.args.memory.now c.args.registers.now c.args.rec in
    let passes = sym (rw (c.fetched-it.ensures, c.in_ok-verdict.was) at c.verdict.ensures) in
    rw c.fetched-it.ensures (fetched_past s c.requires.0.lengths passes)

pub returns-then-count-eq0 : goal.returns-then-count-eq0
returns-then-count-eq0 c =
    let s = lent_at c.args.memory.now c.args.registers.now c.args.rec in
    let passes = sym (rw (c.fetched-it.ensures, c.in_ok-verdict.was) at c.verdict.ensures) in
    let count = rw c.fetched-it.ensures at c.count.ensures in
    rw (c.past.ensures, c.fetched-it.ensures)
    (proceeds_passed s c.args.most c.requires.0.unmarked passes (items_left s passes c.requires.1) (sym count ∙ c.if-count-eq0.true) c.requires.0.some)

pub burst-requires : goal.burst-requires
burst-requires c =
    let s = lent_at c.args.memory.now c.args.registers.now c.args.rec in
    let passes = sym (rw (c.fetched-it.ensures, c.in_ok-verdict.was) at c.verdict.ensures) in
    let count = rw c.fetched-it.ensures at c.count.ensures in
    rw c.fetched-it.ensures
    (record {
      lent = (lengths_of _ _ c.requires.0.lengths).0;
      passes = passes;
      of_items = items_left s passes c.requires.1;
      more = pos_of_ne-zero (λ e. c.if-count-eq0.false (count ∙ e));
    })

pub returns : goal.returns
returns c =
    let s = lent_at c.args.memory.now c.args.registers.now c.args.rec in
    let passes = sym (rw (c.fetched-it.ensures, c.in_ok-verdict.was) at c.verdict.ensures) in
    let count = rw c.fetched-it.ensures at c.count.ensures in
    let some : 0 < items_at s = pos_of_ne-zero (λ e. c.if-count-eq0.false (count ∙ e)) in
    proceeds_first _ _ c.args.rec c.args.most c.requires.0.unmarked passes (items_left s passes c.requires.1) some c.requires.0.some _ _
    (rw c.fetched-it.ensures at c.burst.ensures)
