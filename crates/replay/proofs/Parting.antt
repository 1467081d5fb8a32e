-- One call after others: what they come to together.
use mathlib.Core.Path.{◌≡◌, refl, sym, ◌∙◌, ap}
use mathlib.Core.Bool.{Bool, true, false, false≢true, ◌&&◌}
use mathlib.Core.List.{List}
use Prim.Native.Nat.{ℕ, ◌+◌, ◌<◌, ◌≤◌}
use native.Mathlib.Omega.{arith}
use lib.Dec.{ltb}
use borrow.Author.Tests.{ltb-true, ltb-false}
use Rattle.runs.specs.declared.calls.Outcome.{Outcome}
use Rattle.runs.specs.Answers.{paused}
use Rattle.runs.specs.Steps.{State, at}
use Rattle.runs.specs.Calls.{Called, leaves, afterwards, run}
use Rattle.runs.proofs.Ending.{ran, run_split}
use Rattle.runs.proofs.Lending.{steps_most}
use Rattle.runs.proofs.Theorems.{ended_stays}
use Rattle.replay.specs.Parts.{calls_on, together}

-- what calls of n steps in all came to took no more
pub steps_of : (n : ℕ) (s : State) (b m : ℕ) (r : List ℕ) (o : Outcome) → leaves (at b m r) o ≡ run n s → o.steps ≤ n
steps_of n s b m r o e =
    let f : o.steps ≡ (run n s).steps = ap (λ (c : Called). c.steps) e in
    omega (arith, steps_most n s (run n s) (ran n s))

-- where there is a call to make, steps are left
pub goes : (o : Outcome) (left : ℕ) → calls_on o left ≡ true → 0 < left
goes o left = go (paused o.answer)
  where
    go : (p : Bool) → (p && ltb 0 left) ≡ true → 0 < left
    go true e = ltb-true 0 left e
    go false e = absurd (false≢true e)

module _ (j : ℕ) (s : State) (b m : ℕ) (r : List ℕ) (o : Outcome) (e : leaves (at b m r) o ≡ run j s) where
  -- a call of k steps more, on what calls of j steps in all left
  pub further : (k n b' m' : ℕ) (r' : List ℕ) (o' : Outcome) → 0 < k → j + k ≡ n → leaves (at b' m' r') o' ≡ run k (at b m r o.rec)
      → leaves (at b' m' r') (together o o') ≡ run n s
  further k n b' m' r' o' some all f = ap (afterwards (leaves (at b m r) o)) f ∙ sym (rw (sym e) at (run_split j k s some)) ∙ rw all

  -- where no call is to be made, what is left would change nothing
  pub over : (left n : ℕ) → j + left ≡ n → calls_on o left ≡ false → leaves (at b m r) o ≡ run n s
  over left n all = go (paused o.answer) refl
    where
      go : (p : Bool) → paused o.answer ≡ p → (p && ltb 0 left) ≡ false → leaves (at b m r) o ≡ run n s
      go true _ f =
          let z : n ≡ j = omega (arith, all, ltb-false 0 left f) in
          rw z e
      go false p _ = e ∙ sym (ended_stays j left s (ap (λ (c : Called). paused c.answer) (sym e) ∙ p)) ∙ rw all
