-- Begin, step as often as the budget says, and finish: the same as one call.
use mathlib.Core.Path.{◌≡◌, refl, sym, subst, ◌∙◌, ap}
use mathlib.Core.Bool.{Bool, true, false, ◌&&◌, false≢true}
use Prim.Native.Nat.{ℕ, zero, suc, ◌≤◌}
use native.Mathlib.Omega.{arith}
use lib.Dec.{ltb}
use lib.ListN.{length}
use borrow.Author.Tests.{le-ltb}
use Rattle.runs.specs.declared.control.Control.{Control}
use Rattle.runs.specs.Answers.{paused}
use Rattle.runs.specs.Records.{possible}
use Rattle.runs.specs.Steps.{State, Stepped, ended, next, step}
use Rattle.runs.specs.Calls.{iterate, lengths_right, Sound, run}
use Rattle.runs.specs.Controls.{Sight, state_in, beginning, control_after, control_within, step_control, step_controls, begin_at, finish_at}
use Rattle.runs.specs.Private.Inner.{resume, may_go, Gone}
use Rattle.std.proofs.lemmas.Bool.{cond_both, and_left}
use Rattle.runs.proofs.Numbered.{step_answers}
use Rattle.runs.proofs.Soundness.{step_sound}
use Rattle.runs.proofs.Turning.{turn_over, begins_sound, run_ends}

-- after one step no more than k are left to take, and it leads where it led
record Stepped-on (v w : Sight) (k : ℕ) : Type 0 where
  same : resume w ≡ resume v
  sound : paused w.control.answer ≡ true → Sound (state_in w)
  few : paused w.control.answer ≡ true → w.control.left ≤ k

resume_going : (v : Sight) (l : ℕ) → paused v.control.answer ≡ true → v.control.left ≡ suc l → resume v ≡ iterate (suc l) (state_in v)
unfolding resume
resume_going v l goes e = rw goes (ap (λ (n : ℕ). iterate n (state_in v)) e)

turned_at : (n l : ℕ) (v : Sight) → n ≡ suc l → control_within n v ≡ control_after (step (state_in v)) v l
turned_at n l v e = rw e

turn_going : (v : Sight) (l : ℕ) → paused v.control.answer ≡ true → lengths_right v.bytes (length v.registers) ≡ true → v.control.left ≡ suc l → step_control v ≡ control_after (step (state_in v)) v l
unfolding step_control
turn_going v l goes right e = rw (goes, right) (turned_at v.control.left l v e)

stepped_going : (v : Sight) (k l : ℕ) → paused v.control.answer ≡ true → Sound (state_in v) → v.control.left ≡ suc l → l ≤ k → Stepped-on v (control_after (step (state_in v)) v l) k
unfolding resume iterate
stepped_going v k l goes ok e low = go (step (state_in v)) refl
  where
    go : (x : Stepped) → step (state_in v) ≡ x → Stepped-on v (control_after x v l) k
    go (ended a) q =
        let d = step_answers (state_in v) a q in
        record {
          same = sym (resume_going v l goes e ∙ rw (q, d));
          sound = λ h. absurd (false≢true (sym d ∙ h));
          few = λ h. absurd (false≢true (sym d ∙ h));
        }
    go (next t) q = record { same = sym (resume_going v l goes e ∙ rw q); sound = λ h. step_sound (state_in v) t ok q; few = λ h. low }

over_none : (v : Sight) → (paused v.control.answer ≡ true → v.control.left ≤ 0) → may_go v.control ≡ false
over_none v few = go (paused v.control.answer) refl
  where
    go : (b : Bool) → paused v.control.answer ≡ b → (b && ltb 0 v.control.left) ≡ false
    go true q = le-ltb _ _ (few q)
    go false q = refl

stepped_on : (v : Sight) (k : ℕ) → (paused v.control.answer ≡ true → Sound (state_in v)) → (paused v.control.answer ≡ true → v.control.left ≤ suc k) → Stepped-on v (step_control v) k
stepped_on v k sound few = known (paused v.control.answer) refl
  where
    left : paused v.control.answer ≡ true → (n : ℕ) → v.control.left ≡ n → Stepped-on v (step_control v) k
    left goes zero e = subst (λ (w : Sight). Stepped-on v w k) (turn_over v (over_none v (λ _. omega arith))) (record { same = refl; sound = sound; few = λ h. omega arith })
    left goes (suc l) e =
        let low = few goes in
        subst (λ (w : Sight). Stepped-on v w k) (sym (turn_going v l goes (sound goes).lengths e)) (stepped_going v k l goes (sound goes) e (omega arith))

    known : (b : Bool) → paused v.control.answer ≡ b → Stepped-on v (step_control v) k
    known true q = left q v.control.left refl
    known false q =
        subst (λ (w : Sight). Stepped-on v w k) (turn_over v (and_left _ _ q))
        (record { same = refl; sound = sound; few = λ h. absurd (false≢true (sym q ∙ h)) })

turns_gone : (k : ℕ) (v : Sight) → (paused v.control.answer ≡ true → Sound (state_in v)) → (paused v.control.answer ≡ true → v.control.left ≤ k) → Gone v (step_controls k v)
turns_gone zero v sound few = record { same = refl; over = over_none v few }
turns_gone (suc k) v sound few =
    let t = stepped_on v k sound few in
    let g = turns_gone k (step_control v) t.sound t.few in
    record { same = g.same ∙ t.same; over = g.over }

begins_all : (s : State) (budget : ℕ) → (beginning s.bytes s.registers s.rec budget).left ≡ budget
unfolding beginning
begins_all s budget =
    cond_both (lengths_right s.bytes (length s.registers)) _ _ (λ (c : Control). c.left ≡ budget)
    (λ _. cond_both (possible s.bytes s.registers s.rec) _ _ (λ (c : Control). c.left ≡ budget) (λ _. refl) (λ _. refl))
    (λ _. refl)

begins_kept : (s : State) (n : ℕ) → paused (begin_at n s).control.answer ≡ true → Sound (state_in (begin_at n s))
begins_kept s n h = begins_sound n s (beginning s.bytes s.registers s.rec n) refl h

pub stepping : (n : ℕ) (s : State) → finish_at n (step_controls n (begin_at n s)) ≡ run n s
stepping n s =
    let all = begins_all s n in
    run_ends n s (step_controls n (begin_at n s)) (turns_gone n (begin_at n s) (begins_kept s n) (λ _. omega arith))
