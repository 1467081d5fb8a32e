-- The answers and their numbers: one for each, what is looked up among `refusals`, and that no step ends in `Paused`.
use mathlib.Core.Path.{◌≡◌, refl, sym, subst, ap, ◌∙◌}
use mathlib.Core.Bool.{Bool, true, false, cond, ◌&&◌, false≢true}
use mathlib.Core.List.{List, [], ◌∷◌}
use mathlib.Core.Logic.{◌⊎◌, inl, inr}
use Prim.Native.Nat.{ℕ, ◌<◌, ◌^◌}
use native.Mathlib.Omega.{arith}
use lib.Dec.{eqb}
use Rattle.std.proofs.lemmas.Bool.{eqb-true, ne_eqb, and_parts, cond_both}
use Rattle.instructions.specs.Table.{look_up}
use Rattle.instructions.specs.declared.words.Refusal.{Refusal}
use Rattle.instructions.specs.declared.verdict.Stop.{Stop}
use Rattle.instructions.specs.Verdict.{NumberedCheck, checks, stop_number}
use Rattle.instructions.proofs.Steps.{NumberIn, verdict_known}
use Rattle.runs.specs.declared.answers.Answer.{Answer}
use Rattle.runs.specs.declared.answers.Answer.TheVariants.{Paused, Exit, Lengths, Impossible, NotThere, NotListed, NotZero, Designator, Misaligned, Short, Outside, Shared}
use Rattle.std.specs.Prelude.{Result, Ok, Err}
use Rattle.runs.specs.Answers.{number_of, refusals, said_of, paused, OfChecks}
use Rattle.runs.specs.Records.{half_done}
use Rattle.runs.specs.Steps.{State, Stepped, ended, next, word_at, operands_at, verdict_at, begun, answered, fresh, held, step}
use denote.Enum.Declared.{tag_of}
use denote.Enum.Bare.{tag_one}
use Rattle.runs.specs.contracts.answers.Answer.{the_type}

-- ---- all answers, computed once

-- the number of each is its place
number_is : (a : Answer) → number_of a ≡ tag_of the_type a
number_is Paused = refl
number_is Exit = refl
number_is Lengths = refl
number_is Impossible = refl
number_is NotThere = refl
number_is NotListed = refl
number_is NotZero = refl
number_is Designator = refl
number_is Misaligned = refl
number_is Short = refl
number_is Outside = refl
number_is Shared = refl

-- it has 32 bits
pub number_fits : (a : Answer) → number_of a < 2 ^ 32
number_fits a = grind (arith, number_is a)

-- no two have one number
pub one_number : (a b : Answer) → number_of a ≡ number_of b → a ≡ b
one_number a b e = tag_one the_type tt a b (sym (number_is a) ∙ e ∙ number_is b)

-- `Paused` is the only answer that goes on
pub paused_only : (a : Answer) → paused a ≡ true → a ≡ Paused
paused_only a e = one_number a Paused (eqb-true _ _ e)

-- ---- a number looked up

-- 0 ends nothing, and 1 is the exit
pub said_0 : said_of 0 ≡ Ok tt
unfolding said_of
said_0 = refl

pub said_1 : said_of 1 ≡ Err Exit
unfolding said_of
said_1 = refl

abbrev looked : ℕ → List Answer → Result (Unit {0}) Answer
looked n bs = look_up number_of (λ a. Err a) (Ok tt) n bs

ok_not_err : (a : Answer) → ◌≡◌ {A = Result (Unit {0}) Answer} (Ok tt) (Err a) → ⊥
ok_not_err a e =
    let z : ◌≡◌ {A = ℕ} 0 1 = cc in
    omega arith

-- an answer that is given for a number has that number
given : (n : ℕ) (a : Answer) (bs : List Answer) → looked n bs ≡ Err a → number_of a ≡ n
given n a [] e = absurd (ok_not_err a e)
given n a (b ∷ bs) e = go (eqb n (number_of b)) refl (given n a bs) e
  where
    go : (t : Bool) → eqb n (number_of b) ≡ t → (looked n bs ≡ Err a → number_of a ≡ n)
        → cond t (Err b) (looked n bs) ≡ Err a → number_of a ≡ n
    go true q later e =
        let i : b ≡ a = cc in
        sym (eqb-true n (number_of b) q ∙ ap number_of i)
    go false q later e = later e

pub said_number : (n : ℕ) (a : Answer) → said_of n ≡ Err a → number_of a ≡ n
unfolding said_of
said_number n a e = given n a refusals e

-- what ends a run at an instruction has the number of one of them
said_stop : (stop : Stop) → (a : Answer) × (said_of (stop_number stop) ≡ Err a)
unfolding said_of
said_stop Stop.Exit = (Exit, refl)
said_stop (Stop.Refused Refusal.NotThere) = (NotThere, refl)
said_stop (Stop.Refused Refusal.NotListed) = (NotListed, refl)
said_stop (Stop.Refused Refusal.NotZero) = (NotZero, refl)
said_stop (Stop.Refused Refusal.NoMeaning) = (Designator, refl)
said_stop (Stop.Refused Refusal.Misaligned) = (Misaligned, refl)
said_stop (Stop.Refused Refusal.Short) = (Short, refl)
said_stop (Stop.Refused Refusal.Outside) = (Outside, refl)
said_stop (Stop.Refused Refusal.Shared) = (Shared, refl)

pub said_as : (stop : Stop) (a : Answer) → number_of a ≡ stop_number stop → said_of (stop_number stop) ≡ Err a
said_as stop a e =
    let s = said_stop stop in
    s.1 ∙ ap (λ (x : Answer). Err x) (one_number s.0 a (said_number (stop_number stop) s.0 s.1 ∙ sym e))

-- a number that is neither 0 nor 2 nor 3
pub record Later (v : ℕ) : Type 0 where
  pub not_0 : v ≡ 0 → ⊥
  pub not_2 : v ≡ 2 → ⊥
  pub not_3 : v ≡ 3 → ⊥

pub later : (v : ℕ) → OfChecks v → Later v
unfolding said_of
later v (a, e) = record { not_0 = λ z. ok_not_err a (rw z at e); not_2 = λ z. ok_not_err a (rw z at e); not_3 = λ z. ok_not_err a (rw z at e) }

-- ---- what the checks say

-- every check's number is that of one of `refusals`: computed once
abbrev ends : Result (Unit {0}) Answer → Bool
ends (Err a) = true
ends (Ok _) = false

abbrev all_end : List NumberedCheck → Bool
all_end [] = true
all_end (k ∷ ks) = ends (said_of k.number) && all_end ks

checks_end : all_end checks ≡ true
unfolding said_of
checks_end = refl

number_ends : (n : ℕ) (ks : List NumberedCheck) → all_end ks ≡ true → NumberIn n ks → ends (said_of n) ≡ true
number_ends n [] h i = absurd i
number_ends n (k ∷ ks) h (inl e) = ap (λ (m : ℕ). ends (said_of m)) e ∙ (and_parts (ends (said_of k.number)) _ h).0
number_ends n (k ∷ ks) h (inr i) = number_ends n ks (and_parts (ends (said_of k.number)) _ h).1 i

-- so the step is taken only where no check refuses
pub allows_passes : (s : State) → said_of (verdict_at s) ≡ Ok tt → verdict_at s ≡ 0
allows_passes s e = go (verdict_known s.rec.p (word_at s) (operands_at s) s.bytes)
  where
    go : (verdict_at s ≡ 0) ⊎ NumberIn (verdict_at s) checks → verdict_at s ≡ 0
    go (inl z) = z
    go (inr i) = absurd (false≢true (sym (ap ends e) ∙ number_ends (verdict_at s) checks checks_end i))

-- ---- what is answered is what a number says

abbrev pub led : Result (Unit {0}) Answer → State → Stepped
led (Err a) t = ended a
led (Ok _) t = next t

look_led : (v : ℕ) (t : State) (bs : List Answer) → look_up number_of (λ a. ended a) (next t) v bs ≡ led (looked v bs) t
look_led v t [] = refl
look_led v t (b ∷ bs) = go (eqb v (number_of b)) (look_led v t bs)
  where
    go : (x : Bool) → look_up number_of (λ a. ended a) (next t) v bs ≡ led (looked v bs) t
        → cond x (ended b) (look_up number_of (λ a. ended a) (next t) v bs) ≡ led (cond x (Err b) (looked v bs)) t
    go true e = refl
    go false e = e

pub answered_led : (v : ℕ) (t : State) → answered v t ≡ led (said_of v) t
unfolding answered said_of
answered_led v t = look_led v t refusals

pub fresh_led : (s : State) → fresh s ≡ led (said_of (verdict_at s)) (begun s)
unfolding fresh
fresh_led s = answered_led (verdict_at s) (begun s)

-- ---- a step never ends in `Paused`

abbrev Fair : Stepped → Type 0
Fair (ended a) = paused a ≡ false
Fair (next s) = Unit {0}

fresh_fair : (s : State) → Fair (fresh s)
fresh_fair s = subst Fair (sym (fresh_led s)) (go (said_of (verdict_at s)) refl)
  where
    go : (x : Result (Unit {0}) Answer) → said_of (verdict_at s) ≡ x → Fair (led x (begun s))
    go (Err a) q =
        let e = said_number (verdict_at s) a q in
        ne_eqb (number_of a) 0 (λ z. (later (verdict_at s) (a, q)).not_0 (sym e ∙ z))
    go (Ok _) q = tt

step_fair : (s : State) → Fair (step s)
unfolding step held
step_fair s =
    cond_both (eqb s.rec.mark 0) _ _ Fair (λ _. fresh_fair s) (λ _. cond_both (half_done s.bytes s.registers s.rec) _ _ Fair (λ _. tt) (λ _. refl))

pub step_answers : (s : State) (a : Answer) → step s ≡ ended a → paused a ≡ false
step_answers s a e = rw e at (step_fair s)
