-- The control state by value: the record, what is left of the budget, and the answer, which is `Paused` while none is known. Sections 10 and 12 of
-- docs/MACHINE.md.
use Rattle.std.specs.Prelude.{cond, List, ℕ, zero, suc, ◌-◌, length}
use Rattle.runs.specs.declared.answers.Answer.{Answer}
use Rattle.runs.specs.declared.answers.Answer.TheVariants.{Paused, Lengths, Impossible}
use Rattle.runs.specs.declared.records.Record.{Record}
use Rattle.runs.specs.declared.calls.Outcome.{Outcome}
use Rattle.runs.specs.declared.control.Control.{Control}
use Rattle.runs.specs.Answers.{paused}
use Rattle.runs.specs.Records.{possible}
use Rattle.fields.specs.Bytes.{num}
use Rattle.runs.specs.Steps.{State, at, Stepped, ended, next, step}
use Rattle.runs.specs.Calls.{lengths_right, Called, leaves}

-- A control state of its three parts.
abbrev pub control_state : Record → ℕ → Answer → Control
control_state c left a = record { rec = c; left = left; answer = a }

-- A control state beside its memory and registers; and these put together.
pub record Sight : Type 0 where
  pub bytes : ℕ
  pub memory : ℕ
  pub registers : List ℕ
  pub control : Control

abbrev pub seen : ℕ → ℕ → List ℕ → Control → Sight
seen bytes m r c = record { bytes = bytes; memory = m; registers = r; control = c }

-- The same of bytes and registers as they are lent.
abbrev pub seen_at : List ℕ → List ℕ → Control → Sight
seen_at m r c = seen (length m) (num m) r c

-- The state that it stands for.
abbrev pub state_in : Sight → State
state_in v = at v.bytes v.memory v.registers v.control.rec

-- §12.2: where a run begins, or ends with refusal 2 or 3.
unfoldable pub beginning : ℕ → List ℕ → Record → ℕ → Control
beginning bytes registers c budget =
    cond (lengths_right bytes (length registers)) (cond (possible bytes registers c) (control_state c budget Paused) (control_state c budget Impossible))
    (control_state c budget Lengths)

-- §10.1: after a step with one more than k left of the budget: k are left, or an answer is known.
abbrev pub control_after : Stepped → Sight → ℕ → Sight
control_after (ended a) v k = seen v.bytes v.memory v.registers (control_state v.control.rec (suc k) a)
control_after (next t) v k = seen t.bytes t.memory t.registers (control_state t.rec k Paused)

-- §12.4: a step, if anything is left of the budget.
abbrev pub control_within : ℕ → Sight → Sight
control_within zero v = v
control_within (suc k) v = control_after (step (state_in v)) v k

-- §10.1: one step of a run. None is taken where an answer is known, nothing is left of the budget, or a length is wrong.
unfoldable pub step_control : Sight → Sight
step_control v = cond (paused v.control.answer) (cond (lengths_right v.bytes (length v.registers)) (control_within v.control.left v) v) v

-- So many steps of a run.
abbrev pub step_controls : ℕ → Sight → Sight
step_controls zero v = v
step_controls (suc k) v = step_controls k (step_control v)

-- §10.7, §12.1: what a run says, of the budget that it began with.
unfoldable pub finishing : Control → ℕ → Outcome
finishing c budget = record { answer = c.answer; steps = budget - c.left; rec = c.rec }

-- §12.1: a run begun at a state, and what it is finished with: a call.
abbrev pub begin_at : ℕ → State → Sight
begin_at budget s = seen s.bytes s.memory s.registers (beginning s.bytes s.registers s.rec budget)

abbrev pub finish_at : ℕ → Sight → Called
finish_at budget v = leaves (at v.bytes v.memory v.registers) (finishing v.control budget)
