-- The control state: what a method's proof has to show, from what `perform` ensures.
use mathlib.Core.Path.{◌≡◌, refl, sym, ◌∙◌, ap}
use mathlib.Core.Bool.{Bool, true, false, cond, ◌&&◌, false≢true}
use mathlib.Core.List.{List}
use Prim.Native.Nat.{ℕ, zero, suc, ◌+◌, ◌-◌, ◌<◌, ◌≤◌}
use native.Mathlib.Omega.{arith}
use lib.Dec.{ltb}
use lib.ListN.{length}
use Rattle.std.proofs.lemmas.Bool.{ltb-true, ltb-false, and_parts, cond_both}
use Rattle.runs.specs.declared.answers.Answer.{Answer}
use Rattle.runs.specs.declared.answers.Answer.TheVariants.{Paused, Lengths, Impossible}
use Rattle.runs.specs.declared.records.Record.{Record}
use Rattle.runs.specs.declared.control.Control.{Control}
use Rattle.runs.specs.declared.strides.Did.{Did}
use Rattle.std.specs.Prelude.{Result, Ok, Err, IfOk}
use Rattle.runs.specs.Answers.{paused}
use Rattle.runs.specs.Records.{possible}
use Rattle.runs.specs.Steps.{State, at, next, step, strides}
use Rattle.runs.specs.Calls.{Stopped, iterate, lengths_right, Sound, call, closed, run}
use Rattle.runs.specs.Controls.{control_state, Sight, seen, state_in, beginning, control_after, control_within, step_control, finishing, begin_at, finish_at}
use Rattle.runs.specs.Private.Inner.{Performs, counted, may_go, resume, Advanced, Gone, TakenUp}
use Rattle.runs.proofs.Numbered.{paused_only, step_answers}
use Rattle.runs.proofs.Soundness.{strides_sound}
use Rattle.runs.proofs.Iterating.{iterate_strides, iterate_ended}

-- ONE STEP

one_of : (s t : State) (j : ℕ) → 0 < j → j ≤ 1 → strides j s ≡ next t → step s ≡ next t
unfolding strides
one_of s t j some few e =
    let f : j ≡ 1 = omega arith in
    rw f at e

turned_none : (n : ℕ) (v : Sight) → n ≤ 0 → control_within n v ≡ v
turned_none zero v e = refl
turned_none (suc k) v e = absurd (omega arith)

-- nothing to do
pub turn_over : (v : Sight) → may_go v.control ≡ false → v ≡ step_control v
unfolding step_control
turn_over v = go (paused v.control.answer)
  where
    go : (b : Bool) → (b && ltb 0 v.control.left) ≡ false
        → v ≡ cond b (cond (lengths_right v.bytes (length v.registers)) (control_within v.control.left v) v) v
    go true e = cond_both (lengths_right v.bytes (length v.registers)) _ v (λ (x : Sight). v ≡ x) (λ _. sym (turned_none v.control.left v (ltb-false _ _ e))) (λ _. refl)
    go false e = refl

pub turn_wrong : (v : Sight) → lengths_right v.bytes (length v.registers) ≡ false → v ≡ step_control v
unfolding step_control
turn_wrong v e = cond_both (paused v.control.answer) _ v (λ (x : Sight). v ≡ x) (λ _. rw e) (λ _. refl)

turned_pos : (n : ℕ) (v : Sight) → 0 < n → control_within n v ≡ control_after (step (state_in v)) v (n - 1)
turned_pos zero v some = absurd (omega arith)
turned_pos (suc k) v some =
    let e : suc k - 1 ≡ k = omega arith in
    rw e

-- one step, done or refused, as the code counts it
pub turn_counted : (v : Sight) (bytes m : ℕ) (r : List ℕ) (x : Result Did Answer) → paused v.control.answer ≡ true → 0 < v.control.left
    → lengths_right v.bytes (length v.registers) ≡ true → Performs (state_in v) 1 (at bytes m r) x
    → seen bytes m r (counted v.control.rec v.control.left x) ≡ step_control v
unfolding step_control
turn_counted v bytes m r (Ok d) goes some right p =
    let few = p.few in
    let e : d.steps ≡ 1 = omega (arith, p.some) in
    rw (goes, right, turned_pos v.control.left v some, one_of _ _ d.steps p.some p.few p.steps, e)
turn_counted v bytes m r (Err a) goes some right p =
    let f : suc (v.control.left - 1) ≡ v.control.left = omega arith in
    ap (λ (t : State). seen t.bytes t.memory t.registers (control_state v.control.rec v.control.left a)) p.1
    ∙ rw (goes, right, turned_pos v.control.left v some, p.0, f)

-- no more steps are done than are left
pub performs_within : (s : State) (most : ℕ) (there : Record → State) (left : ℕ) (x : Result Did Answer) → most ≤ left → Performs s most there x → IfOk x (λ (d : Did). d.steps ≤ left)
performs_within s most there left (Ok d) few p = omega (arith, p.few)
performs_within s most there left (Err a) few p = tt

-- SOME STEPS

abbrev halted : State → Answer → ℕ → Stopped
halted s a left = record { state = s; answer = a; left = left }

pub advanced_counted : (v : Sight) (bytes m : ℕ) (r : List ℕ) (x : Result Did Answer) → paused v.control.answer ≡ true → 0 < v.control.left
    → Sound (state_in v) → Performs (state_in v) v.control.left (at bytes m r) x
    → Advanced v (seen bytes m r (counted v.control.rec v.control.left x))
unfolding resume
advanced_counted v bytes m r (Ok d) goes some ok p =
    let few = p.few in
    let pos = p.some in
    let f : d.steps + (v.control.left - d.steps) ≡ v.control.left = omega arith in
    let g = iterate_strides d.steps (v.control.left - d.steps) _ _ p.steps in
    record {
      same = rw goes (sym (rw f at g));
      most = omega arith;
      less = λ h. omega arith;
      sound = λ h. strides_sound d.steps _ _ ok p.steps;
    }
advanced_counted v bytes m r (Err a) goes some ok p =
    let q = step_answers _ a p.0 in
    record {
      same = rw (goes, q) (ap (λ (t : State). halted t a v.control.left) p.1 ∙ sym (iterate_ended v.control.left _ a some p.0));
      most = omega arith;
      less = λ h. absurd (false≢true (sym q ∙ h));
      sound = λ h. absurd (false≢true (sym q ∙ h));
    }

-- a measure: what is left, and one more while no answer is known
abbrev pub to_go : Control → ℕ
to_go c = c.left + cond (paused c.answer) 1 0

pub to_go_less : (v w : Sight) → paused v.control.answer ≡ true → Advanced v w → to_go w.control < to_go v.control
to_go_less v w goes a =
    rw goes
    (cond_both (paused w.control.answer) 1 0 (λ (k : ℕ). w.control.left + k < v.control.left + 1) (λ q. omega (arith, a.less q)) (λ _. omega (arith, a.most)))

pub may_goes : (c : Control) → may_go c ≡ true → (paused c.answer ≡ true) × (0 < c.left)
may_goes c e =
    let parts = and_parts _ _ e in
    (parts.0, ltb-true _ _ parts.1)

-- THE WHOLE RUN

iterate_none : (n : ℕ) (s : State) (a : Answer) → n ≤ 0 → paused a ≡ true → iterate n s ≡ record { state = s; answer = a; left = n }
unfolding iterate
iterate_none zero s a none goes = rw (paused_only a goes)
iterate_none (suc n) s a none goes = absurd (omega arith)

-- a control state with nothing to do leads to itself
resume_over : (v : Sight) → may_go v.control ≡ false → resume v ≡ record { state = state_in v; answer = v.control.answer; left = v.control.left }
unfolding resume
resume_over v h =
    let stays : Stopped = record { state = state_in v; answer = v.control.answer; left = v.control.left } in
    cond_both (paused v.control.answer) _ stays (λ (z : Stopped). z ≡ stays) (λ q. iterate_none _ _ _ (ltb-false _ _ (rw q at h)) q) (λ _. refl)

-- where the beginning leads is the run
run_begins : (budget : ℕ) (s : State) → run budget s ≡ closed budget (resume (begin_at budget s))
unfolding run beginning resume
run_begins budget s = go (lengths_right s.bytes (length s.registers)) (possible s.bytes s.registers s.rec)
  where
    nothing : budget - budget ≡ 0
    nothing = omega arith

    go : (a b : Bool)
        → cond a (cond b (closed budget (iterate budget s)) (call s Impossible 0)) (call s Lengths 0)
        ≡ closed budget (resume (seen s.bytes s.memory s.registers (cond a (cond b (control_state s.rec budget Paused) (control_state s.rec budget Impossible)) (control_state s.rec budget Lengths))))
    go true true = refl
    go true false = rw nothing
    go false b = rw nothing

-- a beginning that goes on is sound
pub begins_sound : (budget : ℕ) (s : State) (d : Control) → d ≡ beginning s.bytes s.registers s.rec budget → paused d.answer ≡ true
    → Sound (at s.bytes s.memory s.registers d.rec)
unfolding beginning
begins_sound budget s d e h = go (lengths_right s.bytes (length s.registers)) refl (possible s.bytes s.registers s.rec) refl e
  where
    go : (a : Bool) → lengths_right s.bytes (length s.registers) ≡ a → (b : Bool) → possible s.bytes s.registers s.rec ≡ b
        → d ≡ cond a (cond b (control_state s.rec budget Paused) (control_state s.rec budget Impossible)) (control_state s.rec budget Lengths)
        → Sound (at s.bytes s.memory s.registers d.rec)
    go true p true q k = rw k (record { lengths = p; can = q })
    go true p false q k = absurd (false≢true (rw k at h))
    go false p b q k = absurd (false≢true (rw k at h))

-- a call that only begins
pub taken_begun : (budget : ℕ) (s : State) (b : Control) → b ≡ beginning s.bytes s.registers s.rec budget
    → TakenUp budget s (seen s.bytes s.memory s.registers b)
taken_begun budget s b e =
    record { same = ap (λ (x : Control). resume (seen s.bytes s.memory s.registers x)) e; sound = begins_sound budget s b e }

-- a call that goes on until nothing is left to do
pub taken_ends : (budget : ℕ) (s : State) (v w : Sight) → TakenUp budget s v → Gone v w → finish_at budget w ≡ run budget s
unfolding finishing
taken_ends budget s v w began g = ap (closed budget) (sym (resume_over w g.over) ∙ g.same ∙ began.same) ∙ sym (run_begins budget s)

pub run_ends : (budget : ℕ) (s : State) (w : Sight) → Gone (begin_at budget s) w → finish_at budget w ≡ run budget s
run_ends budget s w g = taken_ends budget s (begin_at budget s) w (taken_begun budget s _ refl) g
