-- What the contracts of private functions cite; nothing here is part of a public contract.
use Rattle.std.specs.Prelude.{◌≡◌, Bool, true, false, cond, ◌&&◌, List, ℕ, ◌+◌, ◌-◌, ◌<◌, ◌≤◌, leb, ltb, length, Result, Ok, Err, IfOk}
use Rattle.fields.specs.Bytes.{num}
use Rattle.fields.specs.Memory.{right_length}
use Rattle.instructions.specs.declared.operands.Operands.{Operands}
use Rattle.instructions.specs.Verdict.{verdict_of}
use Rattle.instructions.specs.Items.{worked}
use Rattle.instructions.specs.Instruction.{by_items, one_step, may_work, count_of, works_of}
use Rattle.runs.specs.declared.answers.Answer.TheVariants.{Paused}
use Rattle.runs.specs.declared.answers.Answer.{Answer}
use Rattle.runs.specs.declared.records.Record.{Record}
use Rattle.runs.specs.declared.control.Control.{Control}
use Rattle.runs.specs.declared.strides.Did.{Did}
use Rattle.instructions.specs.declared.instruction.Instruction.{Instruction}
use Rattle.instructions.specs.Operands.{gathered}
use Rattle.runs.specs.Answers.{paused}
use Rattle.runs.specs.Records.{flags_right, place_right, half_done}
use Rattle.runs.specs.Steps.{State, ended, next, step, strides, after, word_at, operands_at}
use Rattle.runs.specs.Calls.{Stopped, iterate, lengths_right, Sound}
use Rattle.runs.specs.Controls.{control_state, Sight, state_in, begin_at}

-- An instruction of its three parts.
abbrev pub instruction : ℕ → ℕ → Operands → Instruction
instruction p word o = record { p = record { 0 = p }; word = word; operands = o }

-- The instruction at P, and the one that a record holds.
abbrev pub fetched_at : State → Instruction
fetched_at s = instruction s.rec.p (word_at s) (operands_at s)

abbrev pub held_in : List ℕ → Record → Instruction
held_in registers c = instruction c.p c.word (gathered c.word registers)

-- An instruction that no check refuses, of which `done` items are done and not all, in a memory that may be lent.
pub record Goes (bytes : ℕ) (it : Instruction) (done : ℕ) : Type 0 where
  pub lent : right_length bytes ≡ true
  pub passes : verdict_of it.p.0 it.word it.operands bytes ≡ 0
  pub of_items : by_items it.word ≡ true
  pub more : done < count_of it.word it.operands

-- The next record, and how many steps led to it.
abbrev pub did : Record → ℕ → Did
did c j = record { rec = c; steps = j }

-- What working items i, .., i + j - 1 of an instruction gives, with flags f: memory with them, and the next record with j steps.
pub record Bursts (m : List ℕ) (it : Instruction) (f i j : ℕ) (m' : List ℕ) (d : Did) : Type 0 where
  pub as_long : length m' ≡ length m
  pub memory : num m' ≡ (works_of it.word it.operands (length m) i j (worked (num m) f)).memory
  pub does : d ≡ did (after (count_of it.word it.operands) it.word (i + j) it.p.0 (works_of it.word it.operands (length m) i j (worked (num m) f)).flags) j

-- Some steps are wanted of the instruction at P, from its start, and the lengths are right.
pub record Starts (s : State) (most : ℕ) : Type 0 where
  pub some : 0 < most
  pub lengths : lengths_right s.bytes (length s.registers) ≡ true
  pub unmarked : s.rec.mark ≡ 0

-- Some steps are wanted of what is half done, and the lengths are right.
pub record Resumes (s : State) (most : ℕ) : Type 0 where
  pub some : 0 < most
  pub lengths : lengths_right s.bytes (length s.registers) ≡ true
  pub half_way : half_done s.bytes s.registers s.rec ≡ true

-- What doing at most `most` steps gives: steps of the definition, one or more. `there` is the state that the memory and registers which it leaves make
-- with a record.
pub record Proceeds (s : State) (most : ℕ) (there : Record → State) (d : Did) : Type 0 where
  pub some : 0 < d.steps
  pub few : d.steps ≤ most
  pub steps : strides d.steps s ≡ next (there d.rec)

-- What doing at most `most` steps of one instruction gives: such steps, or the definition's answer and no change.
abbrev pub Performs : State → ℕ → (Record → State) → Result Did Answer → Type 0
Performs s most there (Ok d) = Proceeds s most there d
Performs s most there (Err a) = (step s ≡ ended a) × (there s.rec ≡ s)

-- The instruction at P takes one step.
abbrev pub one_step_at : State → Bool
one_step_at s = one_step s.rec.p (word_at s) (operands_at s) s.bytes

-- What instructions of one step each give: steps of the definition, as many as are wanted, or until the next instruction is refused or goes by items.
pub record Strode (s : State) (most : ℕ) (there : Record → State) (d : Did) : Type 0 where
  pub few : d.steps ≤ most
  pub steps : strides d.steps s ≡ next (there d.rec)
  pub over : d.steps < most → one_step_at (there d.rec) ≡ false

-- The control state after steps of one instruction, or with its answer.
abbrev pub counted : Record → ℕ → Result Did Answer → Control
counted c left (Ok d) = control_state d.rec (left - d.steps) Paused
counted c left (Err a) = control_state c left a

-- There is a step to do: no answer is known, and some budget is left.
abbrev pub may_go : Control → Bool
may_go c = paused c.answer && ltb 0 c.left

-- Where a control state leads: steps with what is left of its budget, or the answer that it has.
unfoldable pub resume : Sight → Stopped
resume v =
    cond (paused v.control.answer) (iterate v.control.left (state_in v))
    (record { state = state_in v; answer = v.control.answer; left = v.control.left })

-- A control state after some steps leads where it led; less is left, or an answer is known; and it is sound where no answer is known.
pub record Advanced (v w : Sight) : Type 0 where
  pub same : resume w ≡ resume v
  pub most : w.control.left ≤ v.control.left
  pub less : paused w.control.answer ≡ true → w.control.left < v.control.left
  pub sound : paused w.control.answer ≡ true → Sound (state_in w)

-- A control state for which nothing is left to do, where another led.
pub record Gone (v w : Sight) : Type 0 where
  pub same : resume w ≡ resume v
  pub over : may_go w.control ≡ false

-- A control state that leads where a call of this budget at s leads, and is sound where no answer is known.
pub record TakenUp (budget : ℕ) (s : State) (w : Sight) : Type 0 where
  pub same : resume w ≡ resume (begin_at budget s)
  pub sound : paused w.control.answer ≡ true → Sound (state_in w)

-- What is done at once of what is half done at s, within the budget. `there` is a control state beside the memory and registers that are left.
pub record Picked (budget : ℕ) (s : State) (there : Control → Sight) (x : Result Did Answer) : Type 0 where
  pub within : IfOk x (λ d. d.steps ≤ budget)
  pub taken : TakenUp budget s (there (counted s.rec budget x))

-- `half_done` of a record that has the mark, with what it holds and its items.
unfoldable pub holding : ℕ → Instruction → ℕ → Bool
holding bytes it items = may_work it.p.0 it.word it.operands bytes && (leb 1 items && ltb items (count_of it.word it.operands))

-- `possible` of a record that has the mark, with what it holds.
unfoldable pub goes_on : ℕ → Instruction → Record → Bool
goes_on bytes it r = place_right r.p && (flags_right r.flags && holding bytes it r.items)
