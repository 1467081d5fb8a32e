-- The result of a call over a record that is lent: the answer's number and the steps, put together and read back.
use mathlib.Core.Path.{◌≡◌, ◌∙◌, ap}
use mathlib.Core.List.{List}
use Prim.Native.Nat.{ℕ, ◌/◌, ◌%◌, ◌<◌, ◌≤◌, ◌^◌}
use native.Mathlib.Omega.{arith}
use lib.Pow.{high, low}
use Rattle.runs.specs.declared.answers.Answer.{Answer}
use Rattle.runs.specs.declared.calls.Outcome.{Outcome}
use Rattle.runs.specs.Answers.{number_of}
use Rattle.runs.specs.Steps.{State, lent_at}
use Rattle.runs.specs.Calls.{Called, leaves}
use Rattle.runs.specs.Hosts.{packed, lent, handed}
use Rattle.runs.proofs.Ending.{Ran, lengths_wrong, not_possible, all_used, stopped}

-- a call's outcome, its record stored and the rest put together, is what the call hands to a host
pub lent_is : (m r : List ℕ) (o : Outcome) (v : ℕ) (x : Called) → leaves (lent_at m r) o ≡ x → v ≡ packed o.answer o.steps → lent (lent_at m r o.rec) v ≡ handed x
lent_is m r o v x e p = ap (lent (lent_at m r o.rec)) p ∙ ap handed e

-- the number is read back from the left, the steps from the right
pub packed_number : (a : Answer) (n : ℕ) → n < 2 ^ 32 → packed a n / 2 ^ 32 ≡ number_of a
unfolding packed
packed_number a n fits = high (number_of a) 32 fits

pub packed_steps : (a : Answer) (n : ℕ) → n < 2 ^ 32 → packed a n % 2 ^ 32 ≡ n
unfolding packed
packed_steps a n fits = low (number_of a) 32 fits

-- a call has no more steps than its budget
pub steps_most : (n : ℕ) (s : State) (c : Called) → Ran n s c → c.steps ≤ n
steps_most n s c (lengths_wrong _ e) = rw e (omega arith)
steps_most n s c (not_possible _ _ e) = rw e (omega arith)
steps_most n s c (all_used _ _ _ e) = rw e (omega arith)
steps_most n s c (stopped i _ _ _ few _ _ e) = rw e (omega (arith, few))
