-- The plan that the code makes is the word's, and is ready.
use mathlib.Core.Path.{ap}
use Rattle.instructions.specs.declared.items.BitPlan.{BitPlan}
use Rattle.instructions.specs.declared.items.MovePlan.{MovePlan}
use Rattle.instructions.specs.Plan.{vectors, bit_runs, byte_move}
use Rattle.instructions.specs.Planned.{plan_in}
use Rattle.instructions.specs.Private.Loops.{width_at, makes_at}
use Rattle.instructions.proofs.Counting.{planned_at, vector_plans}
use Rattle.instructions.proofs.Stepped.{work_asks, vector_asks, work_did, none_did}
use Rattle.instructions.proofs.instruction.Instruction.work.Goals as goal

pub returns-then-count-eq0 : goal.returns-then-count-eq0
returns-then-count-eq0 c = none_did _ _ _ _ _ _ c.if-count-eq0.true

pub bits-requires : goal.bits-requires
unfolding plan_in
bits-requires c = work_asks _ _ _ _ _ _ c.requires (planned_at _ _ c.code_in-code.ensures c.in-20.is (ap (λ (p : BitPlan). bit_runs p) c.bit_plan.ensures))

pub returns-in-20 : goal.returns-in-20
unfolding plan_in
returns-in-20 c = work_did _ _ _ _ _ _ _ _ _ (planned_at _ _ c.code_in-code.ensures c.in-20.is (ap (λ (p : BitPlan). bit_runs p) c.bit_plan.ensures)) c.bits.ensures

pub bits-requires-in-21 : goal.bits-requires-in-21
unfolding plan_in
bits-requires-in-21 c = work_asks _ _ _ _ _ _ c.requires (planned_at _ _ c.code_in-code.ensures c.in-21.is (ap (λ (p : BitPlan). bit_runs p) c.bit_plan-in-21.ensures))

pub returns-in-21 : goal.returns-in-21
unfolding plan_in
returns-in-21 c = work_did _ _ _ _ _ _ _ _ _ (planned_at _ _ c.code_in-code.ensures c.in-21.is (ap (λ (p : BitPlan). bit_runs p) c.bit_plan-in-21.ensures)) c.bits-in-21.ensures

pub bits-requires-in-22 : goal.bits-requires-in-22
unfolding plan_in
bits-requires-in-22 c = work_asks _ _ _ _ _ _ c.requires (planned_at _ _ c.code_in-code.ensures c.in-22.is (ap (λ (p : BitPlan). bit_runs p) c.bit_plan-in-22.ensures))

pub returns-in-22 : goal.returns-in-22
unfolding plan_in
returns-in-22 c = work_did _ _ _ _ _ _ _ _ _ (planned_at _ _ c.code_in-code.ensures c.in-22.is (ap (λ (p : BitPlan). bit_runs p) c.bit_plan-in-22.ensures)) c.bits-in-22.ensures

pub moved-requires : goal.moved-requires
unfolding plan_in
moved-requires c = work_asks _ _ _ _ _ _ c.requires (planned_at _ _ c.code_in-code.ensures c.in-248.is (ap (λ (p : MovePlan). byte_move p) c.move_plan.ensures))

pub returns-in-248 : goal.returns-in-248
unfolding plan_in
returns-in-248 c = work_did _ _ _ _ _ _ _ _ _ (planned_at _ _ c.code_in-code.ensures c.in-248.is (ap (λ (p : MovePlan). byte_move p) c.move_plan.ensures)) c.moved.ensures

pub vector-requires : goal.vector-requires
vector-requires c =
    vector_asks _ _ _ _ _ _ _ _ c.requires (vector_plans _ _ _ _ _ c.code_in-code.ensures c.requires.2 c.requires.1 c.in_default.in_default-own.rest c.vector_plan.ensures)

pub returns-in_default : goal.returns-in_default
returns-in_default c =
    let is = vector_plans _ _ _ _ _ c.code_in-code.ensures c.requires.2 c.requires.1 c.in_default.in_default-own.rest c.vector_plan.ensures in
    work_did _ _ (vectors c.vector_plan.result (width_at c.code_in-code.result) (makes_at c.code_in-code.result)) _ _ _ _ _ _ is.0 c.vector.ensures
