-- What a call leaves to a host that lends its record: section 12 of docs/MACHINE.md.
use Rattle.std.specs.Prelude.{ℕ, ◌+◌, ◌*◌, ◌^◌}
use Rattle.runs.specs.declared.answers.Answer.{Answer}
use Rattle.runs.specs.Answers.{number_of}
use Rattle.runs.specs.Steps.{State}
use Rattle.runs.specs.Calls.{Called}

-- §12.1: the answer's number and the steps as one number of 64 bits, 32 for each, the answer's leftmost.
unfoldable pub packed : Answer → ℕ → ℕ
packed a steps = number_of a * 2 ^ 32 + steps

-- §12.1: what such a call leaves: the state, the new record in it, and the result; and these put together.
pub record LentCall : Type 0 where
  pub state : State
  pub result : ℕ

abbrev pub lent : State → ℕ → LentCall
lent s r = record { state = s; result = r }

-- §12.1: what a call hands to that host.
abbrev pub handed : Called → LentCall
handed c = lent c.state (packed c.answer c.steps)
