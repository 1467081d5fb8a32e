-- What every step keeps, a call keeps: the flags that are set, and register 00; and what register 00 holds makes no difference to a call but in it.
use mathlib.Core.Path.{◌≡◌, refl, sym, subst, ◌∙◌, ap}
use mathlib.Core.Bool.{Bool, true, false, cond}
use mathlib.Core.List.{List, [], ◌∷◌}
use Prim.Native.Nat.{ℕ, zero, suc}
use native.Mathlib.Omega.{arith}
use lib.Dec.{ltb, eqb}
use lib.ListN.{length, get_or, set, length-set}
use lib.Seq.{set-get_or}
use Rattle.instructions.specs.declared.operands.Operands.{Operands}
use Rattle.instructions.specs.Operands.{gathered}
use Rattle.instructions.specs.Verdict.{verdict_of}
use Rattle.instructions.specs.Items.{worked}
use Rattle.instructions.specs.Instruction.{by_items, count_of, Done, acts_of}
use Rattle.instructions.proofs.Steps.{acts_registers}
use Rattle.instructions.proofs.FlagsKept.{Kept, kept_same, kept_on, works_kept, acts_kept}
use Rattle.instructions.proofs.Register00 as instruction
use Rattle.runs.specs.declared.answers.Answer.TheVariants.{Impossible, Lengths}
use Rattle.std.specs.Prelude.{Result, Ok, Err}
use Rattle.runs.specs.declared.answers.Answer.{Answer}
use Rattle.runs.specs.declared.records.Record.{Record}
use Rattle.runs.specs.Answers.{said_of}
use Rattle.runs.specs.Records.{half_done, possible}
use Rattle.runs.specs.Steps.{State, Stepped, ended, next, word_at, operands_at, verdict_at, after, burst, passed, finished, acted, begun, fresh, held_operands, held_at, held, step, strides}
use Rattle.runs.specs.Calls.{Stopped, onward, iterate, lengths_right, call, closed, with00, run}
use Rattle.std.proofs.lemmas.Bool.{cond_both}
use Rattle.runs.proofs.Numbered.{allows_passes, led, fresh_led}
use Rattle.runs.proofs.Iterating.{still, last_stride}
use Rattle.runs.proofs.Ending.{ran}
use Rattle.runs.proofs.Answering.{taken}

-- ---- ANY RELATION

module _ (K : State → State → Type 0) where
  abbrev Onto : State → Stepped → Type 0
  Onto s (ended a) = Unit {0}
  Onto s (next t) = K s t

  -- by what a step does
  record Does (s : State) : Type 0 where
    passing : K s (passed s)
    bursting : (word : ℕ) (o : Operands) (i : ℕ) → K s (burst word o i 1 s)
    acting : verdict_at s ≡ 0 → K s (acted s)

  fresh_onto : (s : State) → Does s → Onto s (fresh s)
  unfolding begun
  fresh_onto s d = subst (Onto s) (sym (fresh_led s)) (go (said_of (verdict_at s)) refl)
    where
      go : (x : Result (Unit {0}) Answer) → said_of (verdict_at s) ≡ x → Onto s (led x (begun s))
      go (Err a) q = tt
      go (Ok _) q =
          cond_both (by_items (word_at s)) _ _ (K s)
          (λ _. cond_both (eqb (count_of (word_at s) (operands_at s)) 0) _ _ (K s) (λ _. d.passing) (λ _. d.bursting _ _ _))
          (λ _. d.acting (allows_passes s q))

  step_onto : (s t : State) → Does s → step s ≡ next t → K s t
  unfolding step held
  step_onto s t d e =
      subst (Onto s) e
      (cond_both (eqb s.rec.mark 0) _ _ (Onto s) (λ _. fresh_onto s d)
      (λ _. cond_both (half_done s.bytes s.registers s.rec) _ _ (Onto s) (λ _. d.bursting _ _ _) (λ _. tt)))

  module _ (same : (s : State) → K s s) (on : (s t u : State) → K s t → K t u → K s u) (does : (s : State) → Does s) where
    strides_onto : (j : ℕ) (s t : State) → strides j s ≡ next t → K s t
    strides_onto zero s t e = subst (K s) (still s t e) (same s)
    strides_onto (suc j) s t e =
        let u = last_stride j s t e in
        on s u.0 t (strides_onto j s u.0 u.1) (step_onto u.0 t (does u.0) u.2)

    run_keeps : (n : ℕ) (s : State) → K s (run n s).state
    run_keeps n s = strides_onto (run n s).steps s (run n s).state (taken n s (run n s) (ran n s))

-- ---- FLAGS

abbrev KeptIn : State → State → Type 0
KeptIn s t = Kept s.rec.flags t.rec.flags

after_flags : (n word k p f : ℕ) → (after n word k p f).flags ≡ f
unfolding after
after_flags n word k p f = cond_both (ltb k n) _ _ (λ (c : Record). c.flags ≡ f) (λ _. refl) (λ _. refl)

burst_kept : (s : State) (word : ℕ) (o : Operands) (i : ℕ) → KeptIn s (burst word o i 1 s)
unfolding burst
burst_kept s word o i = rw after_flags (works_kept word o s.bytes i 1 (worked s.memory s.rec.flags))

pub flags_run : (n : ℕ) (s : State) → KeptIn s (run n s).state
flags_run =
    run_keeps KeptIn (λ s. kept_same s.rec.flags) (λ s t u p q. kept_on s.rec.flags t.rec.flags u.rec.flags p q)
    (λ s. record {
      passing = kept_same s.rec.flags;
      bursting = burst_kept s;
      acting = λ _. acts_kept s.rec.p (word_at s) (operands_at s) s.bytes s.memory s.registers s.rec.flags;
    })

-- ---- REGISTER 00 IS NOT READ

-- a step's end, a stop and a call's state with v in register 00
abbrev onwards00 : ℕ → Stepped → Stepped
onwards00 v (ended a) = ended a
onwards00 v (next t) = next (with00 v t)

abbrev stopped00 : ℕ → Stopped → Stopped
stopped00 v z = record { state = with00 v z.state; answer = z.answer; left = z.left }

module _ (v : ℕ) where
  same_operands : (w : ℕ) (s : State) → gathered w (set s.registers 0 v) ≡ gathered w s.registers
  same_operands w s = instruction.gathered_spared w s.registers v

  same_verdict : (s : State) → verdict_at (with00 v s) ≡ verdict_at s
  same_verdict s = ap (λ (o : Operands). verdict_of s.rec.p (word_at s) o s.bytes) (same_operands (word_at s) s)

  same_half : (s : State) → half_done s.bytes (set s.registers 0 v) s.rec ≡ half_done s.bytes s.registers s.rec
  unfolding half_done
  same_half s = rw (same_operands s.rec.word s)

  burst_00 : (word : ℕ) (o : Operands) (i j : ℕ) (s : State) → burst word o i j (with00 v s) ≡ with00 v (burst word o i j s)
  unfolding burst
  burst_00 word o i j s = refl

  -- the first step, with the operands given
  begun_by : Operands → State → State
  begun_by o s =
      cond (by_items (word_at s)) (cond (eqb (count_of (word_at s) o) 0) (passed s) (burst (word_at s) o 0 1 s))
      (finished s.bytes (acts_of s.rec.p (word_at s) o s.bytes s.memory s.registers s.rec.flags))

  acted_00 : (s : State) → verdict_at s ≡ 0
      → finished s.bytes (acts_of s.rec.p (word_at s) (operands_at s) s.bytes s.memory (set s.registers 0 v) s.rec.flags) ≡ with00 v (acted s)
  acted_00 s passes =
      ap (finished s.bytes) (instruction.acts_spared s.rec.p (word_at s) (operands_at s) s.bytes passes s.memory s.registers s.rec.flags v)

  begun_by_00 : (s : State) → verdict_at s ≡ 0 → begun_by (operands_at s) (with00 v s) ≡ with00 v (begun_by (operands_at s) s)
  unfolding begun_by
  begun_by_00 s passes = go (by_items (word_at s)) (eqb (count_of (word_at s) (operands_at s)) 0)
    where
      go : (a b : Bool)
          → cond a (cond b (passed (with00 v s)) (burst (word_at s) (operands_at s) 0 1 (with00 v s)))
          (finished s.bytes (acts_of s.rec.p (word_at s) (operands_at s) s.bytes s.memory (set s.registers 0 v) s.rec.flags))
          ≡ with00 v (cond a (cond b (passed s) (burst (word_at s) (operands_at s) 0 1 s)) (acted s))
      go true true = refl
      go true false = burst_00 (word_at s) (operands_at s) 0 1 s
      go false b = acted_00 s passes

  begun_00 : (s : State) → verdict_at s ≡ 0 → begun (with00 v s) ≡ with00 v (begun s)
  unfolding begun begun_by
  begun_00 s passes = ap (λ (o : Operands). begun_by o (with00 v s)) (same_operands (word_at s) s) ∙ begun_by_00 s passes

  fresh_00 : (s : State) → fresh (with00 v s) ≡ onwards00 v (fresh s)
  fresh_00 s =
      fresh_led (with00 v s) ∙ ap (λ (n : ℕ). led (said_of n) (begun (with00 v s))) (same_verdict s) ∙ go (said_of (verdict_at s)) refl
      ∙ ap (onwards00 v) (sym (fresh_led s))
    where
      go : (x : Result (Unit {0}) Answer) → said_of (verdict_at s) ≡ x → led x (begun (with00 v s)) ≡ onwards00 v (led x (begun s))
      go (Err a) q = refl
      go (Ok _) q = ap next (begun_00 s (allows_passes s q))

  held_00 : (s : State) → held (with00 v s) ≡ onwards00 v (held s)
  unfolding held
  held_00 s =
      ap (λ (b : Bool). cond b (next (held_at 1 (with00 v s))) (ended Impossible)) (same_half s)
      ∙ ap (λ (t : State). cond (half_done s.bytes s.registers s.rec) (next t) (ended Impossible)) next_00
      ∙ go (half_done s.bytes s.registers s.rec)
    where
      next_00 : held_at 1 (with00 v s) ≡ with00 v (held_at 1 s)
      next_00 = ap (λ (o : Operands). burst s.rec.word o s.rec.items 1 (with00 v s)) (same_operands s.rec.word s) ∙ burst_00 s.rec.word (held_operands s) s.rec.items 1 s

      go : (b : Bool) → cond b (next (with00 v (held_at 1 s))) (ended Impossible) ≡ onwards00 v (cond b (next (held_at 1 s)) (ended Impossible))
      go true = refl
      go false = refl

  step_00 : (s : State) → step (with00 v s) ≡ onwards00 v (step s)
  unfolding step
  step_00 s = go (eqb s.rec.mark 0)
    where
      go : (b : Bool) → cond b (fresh (with00 v s)) (held (with00 v s)) ≡ onwards00 v (cond b (fresh s) (held s))
      go true = fresh_00 s
      go false = held_00 s

  iterate_00 : (n : ℕ) (s : State) → iterate n (with00 v s) ≡ stopped00 v (iterate n s)
  unfolding iterate
  iterate_00 zero s = refl
  iterate_00 (suc k) s = ap (λ (x : Stepped). onward x (with00 v s) k (iterate k)) (step_00 s) ∙ go (λ t. iterate_00 k t) (step s)
    where
      go : ((t : State) → iterate k (with00 v t) ≡ stopped00 v (iterate k t)) → (x : Stepped)
          → onward (onwards00 v x) (with00 v s) k (iterate k) ≡ stopped00 v (onward x s k (iterate k))
      go ih (ended a) = refl
      go ih (next t) = ih t

  same_possible : (s : State) → possible s.bytes (set s.registers 0 v) s.rec ≡ possible s.bytes s.registers s.rec
  unfolding possible
  same_possible s = rw (same_half s)

  pub run_00 : (n : ℕ) (s : State) → run n (with00 v s) ≡ call (with00 v (run n s).state) (run n s).answer (run n s).steps
  unfolding run
  run_00 n s =
      rw (length-set s.registers 0 v, same_possible s, iterate_00 n s) (go (lengths_right s.bytes (length s.registers)) (possible s.bytes s.registers s.rec))
    where
      go : (a b : Bool)
          → cond a (cond b (closed n (stopped00 v (iterate n s))) (call (with00 v s) Impossible 0)) (call (with00 v s) Lengths 0)
          ≡ call (with00 v (cond a (cond b (closed n (iterate n s)) (call s Impossible 0)) (call s Lengths 0)).state)
          (cond a (cond b (closed n (iterate n s)) (call s Impossible 0)) (call s Lengths 0)).answer
          (cond a (cond b (closed n (iterate n s)) (call s Impossible 0)) (call s Lengths 0)).steps
      go true true = refl
      go true false = refl
      go false b = refl

-- ---- REGISTER 00 IS NOT WRITTEN

abbrev Same00 : State → State → Type 0
Same00 s t = get_or t.registers 0 0 ≡ get_or s.registers 0 0

-- a list that is as it would be with that in it holds that
holds_00 : (a b : List ℕ) → length a ≡ length b → a ≡ set a 0 (get_or b 0 0) → get_or a 0 0 ≡ get_or b 0 0
holds_00 [] [] l e = refl
holds_00 [] (y ∷ b) l e = absurd (omega arith)
holds_00 (x ∷ a) [] l e = absurd (omega arith)
holds_00 (x ∷ a) (y ∷ b) l e = ap (λ (c : List ℕ). get_or c 0 0) e

acted_same : (s : State) → verdict_at s ≡ 0 → Same00 s (acted s)
acted_same s passes =
    let r = s.registers in
    let acts : List ℕ → List ℕ = λ rs. (acts_of s.rec.p (word_at s) (operands_at s) s.bytes s.memory rs s.rec.flags).registers in
    holds_00 (acts r) r (acts_registers s.rec.p (word_at s) (operands_at s) s.bytes s.memory r s.rec.flags)
    (ap acts (sym (set-get_or r 0 0))
    ∙ ap (λ (d : Done). d.registers) (instruction.acts_spared s.rec.p (word_at s) (operands_at s) s.bytes passes s.memory r s.rec.flags (get_or r 0 0)))

burst_same : (s : State) (word : ℕ) (o : Operands) (i : ℕ) → Same00 s (burst word o i 1 s)
unfolding burst
burst_same s word o i = refl

pub same_00_run : (n : ℕ) (s : State) → Same00 s (run n s).state
same_00_run = run_keeps Same00 (λ s. refl) (λ s t u p q. q ∙ p) (λ s. record { passing = refl; bursting = burst_same s; acting = acted_same s })
