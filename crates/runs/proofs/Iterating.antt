-- As many steps as a budget allows: how they add up, and why they stop.
use mathlib.Core.Path.{◌≡◌, refl, ◌∙◌, ap}
use mathlib.Core.Logic.{◌⊎◌, inl, inr}
use Prim.Native.Nat.{ℕ, zero, suc, ◌+◌, ◌-◌, ◌<◌, ◌≤◌}
use native.Mathlib.Omega.{arith}
use Rattle.runs.specs.declared.answers.Answer.{Answer}
use Rattle.runs.specs.declared.answers.Answer.TheVariants.{Paused}
use Rattle.runs.specs.Steps.{State, Stepped, ended, next, step, bind, strides}
use Rattle.runs.specs.Calls.{Stopped, onward, iterate}

-- an answer is no step
pub ended_next : (a : Answer) (t : State) → ended a ≡ next t → ⊥
ended_next a t e =
    let z : ◌≡◌ {A = ℕ} 0 1 = cc in
    omega arith

-- no step leads nowhere else
pub still : (s t : State) → strides 0 s ≡ next t → s ≡ t
unfolding strides
still s t e = cc

-- the last of some steps, and what they came to before it
pub last_stride : (j : ℕ) (s t : State) → strides (suc j) s ≡ next t → (u : State) × (strides j s ≡ next u) × (step u ≡ next t)
unfolding strides
last_stride j s t e = go (strides j s) refl e
  where
    go : (x : Stepped) → strides j s ≡ x → bind x step ≡ next t → (u : State) × (strides j s ≡ next u) × (step u ≡ next t)
    go (ended a) q h = absurd (ended_next a t h)
    go (next u) q h = (u, q, h)

-- a first step and j more
strides_first : (j : ℕ) (s t : State) → step s ≡ next t → strides (suc j) s ≡ strides j t
unfolding strides
strides_first zero s t e = e
strides_first (suc j) s t e = ap (λ (x : Stepped). bind x step) (strides_first j s t e)

-- no step, and one
pub no_stride : (s : State) → strides 0 s ≡ next s
unfolding strides
no_stride s = refl

pub one_stride : (s t : State) → step s ≡ next t → strides 1 s ≡ next t
unfolding strides
one_stride s t e = e

-- steps that are taken come off the budget
pub iterate_strides : (j k : ℕ) (s t : State) → strides j s ≡ next t → iterate (j + k) s ≡ iterate k t
unfolding iterate
iterate_strides zero k s t e =
    let f : 0 + k ≡ k = omega arith in
    rw (f, still s t e)
iterate_strides (suc j) k s t e =
    let f : suc j + k ≡ j + suc k = omega arith in
    let u = last_stride j s t e in
    rw f (iterate_strides j (suc k) s u.0 u.1 ∙ rw u.2)

-- an answer in place of the first step
pub iterate_ended : (n : ℕ) (s : State) (a : Answer) → 0 < n → step s ≡ ended a → iterate n s ≡ record { state = s; answer = a; left = n }
unfolding iterate
iterate_ended zero s a some e = absurd (omega arith)
iterate_ended (suc k) s a some e = rw e

-- where steps stopped: as many as are gone from the budget were taken, and all of it is gone or the next step ends
pub record Came (j : ℕ) (s : State) (z : Stopped) : Type 0 where
  pub few : z.left ≤ j
  pub taken : strides (j - z.left) s ≡ next z.state
  pub why : ((z.answer ≡ Paused) × (z.left ≡ 0)) ⊎ ((0 < z.left) × (step z.state ≡ ended z.answer))

none_taken : (n : ℕ) (s : State) → strides (n - n) s ≡ next s
unfolding strides
none_taken n s =
    let e : n - n ≡ 0 = omega arith in
    rw e

pub came : (j : ℕ) (s : State) → Came j s (iterate j s)
unfolding iterate
came zero s = record { few = omega arith; taken = none_taken 0 s; why = inl (refl, refl) }
came (suc j) s = go (λ t. came j t) (step s) refl
  where
    go : ((t : State) → Came j t (iterate j t)) → (x : Stepped) → step s ≡ x → Came (suc j) s (onward x s j (iterate j))
    go ih (ended a) q = record { few = omega arith; taken = none_taken (suc j) s; why = inr (omega arith, q) }
    go ih (next t) q =
        let c = ih t in
        let less = c.few in
        let e : suc j - (iterate j t).left ≡ suc (j - (iterate j t).left) = omega arith in
        record {
          few = omega arith;
          taken = rw e (strides_first (j - (iterate j t).left) s t q ∙ c.taken);
          why = c.why;
        }
