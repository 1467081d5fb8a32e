-- `runs::strides::stride` meets its contract.
use mathlib.Core.Path.{refl, sym, ◌∙◌}
use Rattle.runs.proofs.Iterating.{no_stride}
use Rattle.runs.proofs.Soundness.{lengths_of}
use Rattle.runs.proofs.Striding.{one_step_passes, stride_on}
use Rattle.runs.proofs.strides.stride.Goals as goal

pub loop-steps-init : goal.loop-steps-init
loop-steps-init c = rw c.between-rec.ensures (refl, no_stride _)

pub act-acted-requires : goal.act-acted-requires
act-acted-requires c =
    let e = c.fetched-it.ensures in
    let one = rw e at c.one_step.ensures in
    let passes = one_step_passes _ _ _ _ (sym one ∙ c.if-not-one_step.false) in
    rw e (passes.0, passes.1, c.loop-steps.auto.registers ∙ (lengths_of _ _ c.requires).1)

pub loop-steps-preserved : goal.loop-steps-preserved
loop-steps-preserved c =
    let i = c.loop-steps.invariant in
    let e = c.fetched-it.ensures in
    let one = rw e at c.one_step.ensures in
    let acts = rw e at c.act-acted.ensures in
    rw c.between-rec-in-loop-steps.ensures (refl, stride_on _ _ _ i.1 i.0 (sym one ∙ c.if-not-one_step.false) _ _ _ _ _ acts.0 acts.1)
