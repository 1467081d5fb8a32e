-- A call: as many steps as the budget allows. Section 12 of docs/MACHINE.md; parts of a budget, §13.3.
use Rattle.std.specs.Prelude.{◌≡◌, Bool, true, cond, ◌&&◌, List, [], ◌∷◌, ℕ, zero, suc, ◌+◌, ◌-◌, ◌<◌, eqb, length, set}
use Rattle.fields.specs.Memory.{right_length}
use Rattle.runs.specs.declared.answers.Answer.{Answer}
use Rattle.runs.specs.declared.answers.Answer.TheVariants.{Paused, Lengths, Impossible}
use Rattle.runs.specs.declared.records.Record.{Record}
use Rattle.runs.specs.declared.calls.Outcome.{Outcome}
use Rattle.runs.specs.Records.{possible}
use Rattle.runs.specs.Steps.{State, at, Stepped, ended, next, verdict_at, step, strides}

-- Where steps stopped: the state, why, and what is left of the budget.
pub record Stopped : Type 0 where
  pub state : State
  pub answer : Answer
  pub left : ℕ

-- After a step from s, for which one more than k were left: an answer stops the run at s and uses none of them; else it goes on.
abbrev pub onward : Stepped → State → ℕ → (State → Stopped) → Stopped
onward (ended a) s k go = record { state = s; answer = a; left = suc k }
onward (next t) s k go = go t

-- §12.2, §12.4: steps until there is an answer; before each step answer 0, where the budget is used up.
unfoldable pub iterate : ℕ → State → Stopped
iterate zero s = record { state = s; answer = Paused; left = 0 }
iterate (suc k) s = onward (step s) s k (iterate k)

-- §12.6, §1.2: a memory that may be lent, and 256 registers; else refusal 2.
unfoldable pub lengths_right : ℕ → ℕ → Bool
lengths_right bytes registers = right_length bytes && eqb registers 256

-- §12.1: what a call leaves: the state, the answer, the steps; and these put together.
pub record Called : Type 0 where
  pub state : State
  pub answer : Answer
  pub steps : ℕ

abbrev pub call : State → Answer → ℕ → Called
call s a n = record { state = s; answer = a; steps = n }

-- §10.7: the steps of a call are the budget less what is left of it.
abbrev pub closed : ℕ → Stopped → Called
closed budget z = call z.state z.answer (budget - z.left)

-- §12.1, §12.2: a call: refusals 2 and 3 come first and leave all as it is; then steps.
unfoldable pub run : ℕ → State → Called
run budget s =
    cond (lengths_right s.bytes (length s.registers))
    (cond (possible s.bytes s.registers s.rec) (closed budget (iterate budget s)) (call s Impossible 0))
    (call s Lengths 0)

-- What an outcome of the program says, with what it leaves: `there` is the state that the memory and registers which it leaves make with a record.
abbrev pub leaves : (Record → State) → Outcome → Called
leaves there o = call (there o.rec) o.answer o.steps

-- The same state with v in register 00.
abbrev pub with00 : ℕ → State → State
with00 v s = at s.bytes s.memory (set s.registers 0 v) s.rec

-- §12.6, §12.7: neither refusal 2 nor 3: the lengths are right, and the record is possible.
pub record Sound (s : State) : Type 0 where
  pub lengths : lengths_right s.bytes (length s.registers) ≡ true
  pub can : possible s.bytes s.registers s.rec ≡ true

-- §12.16: when a call answers 1 or 4 to 11: j steps, fewer than the budget n, lead from s to a state t between two instructions where v is the
-- verdict on the word at P.
pub record Refused (n : ℕ) (s : State) (v j : ℕ) (t : State) : Type 0 where
  pub sound : Sound s
  pub fewer : j < n
  pub reached : strides j s ≡ next t
  pub unmarked : t.rec.mark ≡ 0
  pub verdict : verdict_at t ≡ v

-- §13.3: one call after another, each on what the one before left: the last one's state and answer, and all their steps.
abbrev pub afterwards : Called → Called → Called
afterwards c d = call d.state d.answer (c.steps + d.steps)

abbrev pub in_parts : ℕ → List ℕ → State → Called
in_parts n [] s = run n s
in_parts n (k ∷ ks) s = afterwards (run n s) (in_parts k ks (run n s).state)

-- §13.3: all parts together, and that each is one or more.
abbrev pub total : List ℕ → ℕ
total [] = 0
total (k ∷ ks) = k + total ks

abbrev pub OneOrMore : List ℕ → Type 0
OneOrMore [] = Unit {0}
OneOrMore (k ∷ ks) = (0 < k) × OneOrMore ks
