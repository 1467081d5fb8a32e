-- What each of the four ways in which a call ends says of its answer, its steps and its state.
use mathlib.Core.Path.{◌≡◌, refl, sym, ◌∙◌, ap}
use mathlib.Core.Bool.{true, false, false≢true}
use mathlib.Core.Logic.{◌⊎◌, inl, inr}
use Prim.Native.Nat.{ℕ, ◌+◌}
use native.Mathlib.Omega.{arith}
use lib.ListN.{length}
use Rattle.runs.specs.Answers.{number_of, said_of, paused, OfChecks}
use Rattle.runs.specs.Records.{possible}
use Rattle.runs.specs.Steps.{State, next, strides}
use Rattle.runs.specs.Calls.{lengths_right, Sound, Refused, Called, run}
use Rattle.runs.proofs.Numbered.{said_number, Later, later}
use Rattle.runs.proofs.Soundness.{strides_sound}
use Rattle.runs.proofs.Performing.{step_refused}
use Rattle.runs.proofs.Ending.{Ran, lengths_wrong, not_possible, all_used, stopped, run_of, why, why_number, ends_checked}

-- a larger budget
pub stays : (n k : ℕ) (s : State) (c : Called) → Ran n s c → paused c.answer ≡ false → run (n + k) s ≡ c
stays n k s c (lengths_wrong p e) h = run_of (n + k) s c (lengths_wrong p e)
stays n k s c (not_possible p q e) h = run_of (n + k) s c (not_possible p q e)
stays n k s c (all_used t ok e is) h = absurd (false≢true (sym (rw is at h)))
stays n k s c (stopped i t a ok low e q is) h = run_of (n + k) s c (stopped i t a ok (omega arith) e q is)

-- the steps are taken
pub taken : (n : ℕ) (s : State) (c : Called) → Ran n s c → strides c.steps s ≡ next c.state
unfolding strides
taken n s c (lengths_wrong p e) = rw e
taken n s c (not_possible p q e) = rw e
taken n s c (all_used t ok e is) = rw is e
taken n s c (stopped i t a ok low e q is) = rw is e

-- 0, and the steps
pub says_0 : (n : ℕ) (s : State) (c : Called) → Ran n s c → number_of c.answer ≡ 0 → Sound s × ((c.steps ≡ n) × (strides n s ≡ next c.state))
says_0 n s c (lengths_wrong p e) h = absurd (omega (arith, rw e at h))
says_0 n s c (not_possible p q e) h = absurd (omega (arith, rw e at h))
says_0 n s c (all_used t ok e is) h = (ok, (rw is, rw is e))
says_0 n s c (stopped i t a ok low e q is) h = absurd ((later (number_of a) (ends_checked t a (strides_sound i s t ok e) q)).not_0 (rw is at h))

-- one of the numbers
pub says_any : (n : ℕ) (s : State) (c : Called) → Ran n s c
    → (number_of c.answer ≡ 0) ⊎ ((number_of c.answer ≡ 2) ⊎ ((number_of c.answer ≡ 3) ⊎ OfChecks (number_of c.answer)))
says_any n s c (lengths_wrong p e) = inr (inl (rw e))
says_any n s c (not_possible p q e) = inr (inr (inl (rw e)))
says_any n s c (all_used t ok e is) = inl (rw is)
says_any n s c (stopped i t a ok low e q is) = inr (inr (inr (rw is (ends_checked t a (strides_sound i s t ok e) q))))

-- 2 and 3
pub says_2 : (n : ℕ) (s : State) (c : Called) → Ran n s c → number_of c.answer ≡ 2 → lengths_right s.bytes (length s.registers) ≡ false
says_2 n s c (lengths_wrong p e) h = p
says_2 n s c (not_possible p q e) h = absurd (omega (arith, rw e at h))
says_2 n s c (all_used t ok e is) h = absurd (omega (arith, rw is at h))
says_2 n s c (stopped i t a ok low e q is) h = absurd ((later (number_of a) (ends_checked t a (strides_sound i s t ok e) q)).not_2 (rw is at h))

pub says_3 : (n : ℕ) (s : State) (c : Called) → Ran n s c → number_of c.answer ≡ 3
    → (lengths_right s.bytes (length s.registers) ≡ true) × (possible s.bytes s.registers s.rec ≡ false)
says_3 n s c (lengths_wrong p e) h = absurd (omega (arith, rw e at h))
says_3 n s c (not_possible p q e) h = (p, q)
says_3 n s c (all_used t ok e is) h = absurd (omega (arith, rw is at h))
says_3 n s c (stopped i t a ok low e q is) h = absurd ((later (number_of a) (ends_checked t a (strides_sound i s t ok e) q)).not_3 (rw is at h))

pub nothing_changed : (n : ℕ) (s : State) (c : Called) → Ran n s c → (number_of c.answer ≡ 2) ⊎ (number_of c.answer ≡ 3) → (c.state ≡ s) × (c.steps ≡ 0)
nothing_changed n s c (lengths_wrong p e) h = (rw e, rw e)
nothing_changed n s c (not_possible p q e) h = (rw e, rw e)
nothing_changed n s c (all_used t ok e is) (inl h) = absurd (omega (arith, rw is at h))
nothing_changed n s c (all_used t ok e is) (inr h) = absurd (omega (arith, rw is at h))
nothing_changed n s c (stopped i t a ok low e q is) (inl h) = absurd ((later (number_of a) (ends_checked t a (strides_sound i s t ok e) q)).not_2 (rw is at h))
nothing_changed n s c (stopped i t a ok low e q is) (inr h) = absurd ((later (number_of a) (ends_checked t a (strides_sound i s t ok e) q)).not_3 (rw is at h))

-- 1, and 4 to 11
pub says_checked : (n : ℕ) (s : State) (c : Called) → Ran n s c → Later (number_of c.answer) → Refused n s (number_of c.answer) c.steps c.state
says_checked n s c (lengths_wrong p e) l = absurd (l.not_2 (rw e))
says_checked n s c (not_possible p q e) l = absurd (l.not_3 (rw e))
says_checked n s c (all_used t ok e is) l = absurd (l.not_0 (rw is))
says_checked n s c (stopped i t a ok low e q is) l =
    let w = why t a (strides_sound i s t ok e) q in
    rw is (record { sound = ok; fewer = low; reached = e; unmarked = w.unmarked; verdict = sym (why_number t a w) })

pub checked_says : (n : ℕ) (s : State) (v j : ℕ) (t : State) → OfChecks v → Refused n s v j t → number_of (run n s).answer ≡ v
checked_says n s v j t (a, said) r =
    let q = step_refused t a r.unmarked (ap said_of r.verdict ∙ said) in
    ap (λ (c : Called). number_of c.answer) (run_of n s _ (stopped j t a r.sound r.fewer r.reached q refl)) ∙ said_number v a said
