-- The four ways in which a call ends, and that there is no other.
use mathlib.Core.Path.{◌≡◌, refl, sym, ◌∙◌, ap}
use mathlib.Core.Bool.{Bool, true, false}
use mathlib.Core.Logic.{◌⊎◌, inl, inr}
use Prim.Native.Nat.{ℕ, ◌+◌, ◌-◌, ◌<◌}
use native.Mathlib.Omega.{arith}
use lib.Dec.{eqb}
use lib.ListN.{length}
use borrow.Author.Tests.{eqb-true, eqb-false}
use Rattle.runs.specs.declared.answers.Answer.{Answer}
use Rattle.runs.specs.declared.answers.Answer.TheVariants.{Paused, Lengths, Impossible}
use Rattle.std.specs.Prelude.{Result, Ok, Err}
use Rattle.runs.specs.Answers.{number_of, said_of, OfChecks}
use Rattle.runs.specs.Records.{possible}
use Rattle.runs.specs.Steps.{State, ended, next, verdict_at, step, strides}
use Rattle.runs.specs.Calls.{Stopped, iterate, lengths_right, Sound, Called, call, closed, afterwards, run}
use Rattle.runs.proofs.Numbered.{said_number, allows_passes}
use Rattle.runs.proofs.Soundness.{strides_sound, possible_marked}
use Rattle.runs.proofs.Iterating.{ended_next, iterate_strides, iterate_ended, Came, came}
use Rattle.runs.proofs.Bursting.{step_held}
use Rattle.runs.proofs.Performing.{step_refused, step_begun}

-- a call of budget n at s that left the call c
pub data Ran (n : ℕ) (s : State) (c : Called) : Type 0 where
  lengths_wrong : lengths_right s.bytes (length s.registers) ≡ false → c ≡ call s Lengths 0 → Ran n s c
  not_possible : lengths_right s.bytes (length s.registers) ≡ true → possible s.bytes s.registers s.rec ≡ false → c ≡ call s Impossible 0 → Ran n s c
  all_used : (t : State) → Sound s → strides n s ≡ next t → c ≡ call t Paused n → Ran n s c
  stopped : (i : ℕ) (t : State) (a : Answer) → Sound s → i < n → strides i s ≡ next t → step t ≡ ended a → c ≡ call t a i → Ran n s c

run_lengths : (n : ℕ) (s : State) → lengths_right s.bytes (length s.registers) ≡ false → run n s ≡ call s Lengths 0
unfolding run
run_lengths n s p = rw p

run_impossible : (n : ℕ) (s : State) → lengths_right s.bytes (length s.registers) ≡ true → possible s.bytes s.registers s.rec ≡ false → run n s ≡ call s Impossible 0
unfolding run
run_impossible n s p q = rw (p, q)

run_sound : (n : ℕ) (s : State) → Sound s → run n s ≡ closed n (iterate n s)
unfolding run
run_sound n s ok = simp (ok.lengths, ok.can)

run_paused : (n : ℕ) (s t : State) → Sound s → strides n s ≡ next t → run n s ≡ call t Paused n
unfolding iterate
run_paused n s t ok e =
    let f : n + 0 ≡ n = omega arith in
    let z : n - 0 ≡ n = omega arith in
    let g : iterate n s ≡ iterate 0 t = rw f at (iterate_strides n 0 s t e) in
    run_sound n s ok ∙ ap (closed n) g ∙ rw z

run_stopped : (n : ℕ) (s : State) (i : ℕ) (t : State) (a : Answer) → Sound s → i < n → strides i s ≡ next t → step t ≡ ended a → run n s ≡ call t a i
run_stopped n s i t a ok low e h =
    let f : i + (n - i) ≡ n = omega arith in
    let z : n - (n - i) ≡ i = omega arith in
    let g : iterate n s ≡ iterate (n - i) t = rw f at (iterate_strides i (n - i) s t e) in
    run_sound n s ok ∙ ap (closed n) (g ∙ iterate_ended (n - i) t a (omega arith) h) ∙ rw z

-- each of the four ways says what the call left
pub run_of : (n : ℕ) (s : State) (c : Called) → Ran n s c → run n s ≡ c
run_of n s c (lengths_wrong p e) = run_lengths n s p ∙ sym e
run_of n s c (not_possible p q e) = run_impossible n s p q ∙ sym e
run_of n s c (all_used t ok e is) = run_paused n s t ok e ∙ sym is
run_of n s c (stopped i t a ok low e h is) = run_stopped n s i t a ok low e h ∙ sym is

-- every call ends in one of them
pub ran : (n : ℕ) (s : State) → Ran n s (run n s)
ran n s = go (lengths_right s.bytes (length s.registers)) refl (possible s.bytes s.registers s.rec) refl
  where
    fits : Sound s → (z : Stopped) → Came n s z → Ran n s (closed n z)
    fits ok z c = by c.why
      where
        by : ((z.answer ≡ Paused) × (z.left ≡ 0)) ⊎ ((0 < z.left) × (step z.state ≡ ended z.answer)) → Ran n s (closed n z)
        by (inl h) =
            let f : n - z.left ≡ n = omega (arith, h.1) in
            all_used z.state ok (rw f at c.taken) (rw (f, h.0))
        by (inr h) = stopped (n - z.left) z.state z.answer ok (omega (arith, h.0, c.few)) c.taken h.1 refl

    go : (a : Bool) → lengths_right s.bytes (length s.registers) ≡ a → (b : Bool) → possible s.bytes s.registers s.rec ≡ b → Ran n s (run n s)
    go true p true q =
        let ok : Sound s = record { lengths = p; can = q } in
        rw (run_sound n s ok) (fits ok (iterate n s) (came n s))
    go true p false q = not_possible p q (run_impossible n s p q)
    go false p b q = lengths_wrong p (run_lengths n s p)

-- a sound state whose next step ends stands between two instructions, and what the checks say of its word is why
pub record Why (t : State) (a : Answer) : Type 0 where
  pub unmarked : t.rec.mark ≡ 0
  pub said : said_of (verdict_at t) ≡ Err a

pub why : (t : State) (a : Answer) → Sound t → step t ≡ ended a → Why t a
why t a ok e = marked (eqb t.rec.mark 0) refl
  where
    checked : t.rec.mark ≡ 0 → (x : Result (Unit {0}) Answer) → said_of (verdict_at t) ≡ x → Why t a
    checked m (Err b) q =
        let f = step_refused t b m q in
        let g : b ≡ a = cc in
        record { unmarked = m; said = q ∙ ap (λ (c : Answer). Err c) g }
    checked m (Ok _) q =
        absurd (ended_next a _ (sym e ∙ step_begun t m (allows_passes t q)))

    marked : (b : Bool) → eqb t.rec.mark 0 ≡ b → Why t a
    marked true q = checked (eqb-true _ _ q) (said_of (verdict_at t)) refl
    marked false q =
        absurd (ended_next a _ (sym e ∙ step_held t (possible_marked t.bytes t.registers t.rec ok.can (eqb-false _ _ q))))

-- the answer's number is the verdict, and that of one of `refusals`
pub why_number : (t : State) (a : Answer) → Why t a → number_of a ≡ verdict_at t
why_number t a w = said_number (verdict_at t) a w.said

pub ends_checked : (t : State) (a : Answer) → Sound t → step t ≡ ended a → OfChecks (number_of a)
ends_checked t a ok e =
    let w = why t a ok e in
    (a, ap said_of (why_number t a w) ∙ w.said)

-- a call at a state whose next step ends
run_still : (k : ℕ) (t : State) (a : Answer) → 0 < k → Sound t → step t ≡ ended a → run k t ≡ call t a 0
unfolding strides
run_still k t a some ok h = run_stopped k t 0 t a ok some refl h

-- one more call of one step or more, on what a call left
pub run_split : (j k : ℕ) (s : State) → 0 < k → run (j + k) s ≡ afterwards (run j s) (run k (run j s).state)
run_split j k s some = go (run j s) (ran j s)
  where
    go : (c : Called) → Ran j s c → run (j + k) s ≡ afterwards c (run k c.state)
    go c (lengths_wrong p e) = rw e (run_lengths (j + k) s p ∙ rw (run_lengths k s p))
    go c (not_possible p q e) = rw e (run_impossible (j + k) s p q ∙ rw (run_impossible k s p q))
    go c (all_used t ok e is) =
        let l = (came k t).few in
        let f : j + k - (iterate k t).left ≡ j + (k - (iterate k t).left) = omega arith in
        rw is (run_sound (j + k) s ok ∙ ap (closed (j + k)) (iterate_strides j k s t e) ∙ rw (run_sound k t (strides_sound j s t ok e), f))
    go c (stopped i t a ok low e h is) =
        let f : i + 0 ≡ i = omega arith in
        rw is (run_stopped (j + k) s i t a ok (omega arith) e h ∙ rw (run_still k t a some (strides_sound i s t ok e) h, f))
