-- Instructions of one step each: a run of them is as many steps of the definition.
use mathlib.Core.Path.{◌≡◌, refl, sym, ◌∙◌, ap, subst}
use mathlib.Core.Bool.{Bool, true, false, not, ◌&&◌, false≢true}
use mathlib.Core.List.{List}
use Prim.Native.Nat.{ℕ, zero, suc, ◌+◌, ◌-◌, ◌<◌, ◌≤◌}
use native.Mathlib.Omega.{arith}
use lib.Dec.{eqb}
use lib.ListN.{length}
use Rattle.fields.specs.Bytes.{num}
use Rattle.std.proofs.lemmas.Bool.{eqb-true}
use Rattle.instructions.specs.declared.operands.Operands.{Operands}
use Rattle.instructions.specs.Verdict.{verdict_of}
use Rattle.instructions.specs.Instruction.{by_items, one_step, leaving, acts_of}
use Rattle.runs.specs.declared.records.Record.{Record}
use Rattle.runs.specs.declared.answers.Answer.{Answer}
use Rattle.runs.specs.declared.strides.Did.{Did}
use Rattle.std.specs.Prelude.{Result}
use Rattle.runs.specs.Records.{between}
use Rattle.runs.specs.Steps.{State, Stepped, at, lent_at, next, bind, word_at, operands_at, burst, finished, begun, fresh, step, strides}
use Rattle.runs.specs.Private.Inner.{Starts, Proceeds, Performs, one_step_at, Strode}
use Rattle.runs.proofs.Iterating.{still}
use Rattle.runs.proofs.Performing.{step_fresh, step_acted}

-- ONE OF THEM

pub one_step_passes : (p word : ℕ) (o : Operands) (bytes : ℕ) → one_step p word o bytes ≡ true → (verdict_of p word o bytes ≡ 0) × (by_items word ≡ false)
unfolding one_step
one_step_passes p word o bytes h = let g = go (eqb (verdict_of p word o bytes) 0) (by_items word) h in (eqb-true _ _ g.0, g.1)
  where
    go : (x y : Bool) → (x && not y) ≡ true → (x ≡ true) × (y ≡ false)
    go true false e = (refl, refl)
    go true true e = (refl, sym e)
    go false y e = (e, absurd (false≢true e))

one_more : (k : ℕ) (v w u : State) → strides k v ≡ next w → step w ≡ next u → strides (suc k) v ≡ next u
unfolding strides
one_more k v w u e h = ap (λ (x : Stepped). bind x step) e ∙ h

-- a turn of the loop
pub stride_on : (v w : State) (k : ℕ) → strides k v ≡ next w → w.rec.mark ≡ 0 → one_step_at w ≡ true
    → (bytes m : ℕ) (r : List ℕ) (p f : ℕ) → bytes ≡ w.bytes → leaving m r p f ≡ acts_of w.rec.p (word_at w) (operands_at w) w.bytes w.memory w.registers w.rec.flags
    → strides (k + 1) v ≡ next (at bytes m r (between p f))
stride_on v w k e unmarked one bytes m r p f long acts =
    let passes = one_step_passes w.rec.p (word_at w) (operands_at w) w.bytes one in
    let q : k + 1 ≡ suc k = omega arith in
    rw (q, long)
    (one_more k v w _ e (step_acted w unmarked passes.0 passes.1 ∙ ap next (ap (finished w.bytes) (sym acts))))

-- FROM A RECORD THAT IS NOT HALF DONE: its held word and items do not matter

step_between : (bytes m : ℕ) (r : List ℕ) (c : Record) → c.mark ≡ 0 → step (at bytes m r c) ≡ step (at bytes m r (between c.p c.flags))
unfolding fresh begun burst
step_between bytes m r c unmarked = step_fresh (at bytes m r c) unmarked ∙ sym (step_fresh (at bytes m r (between c.p c.flags)) refl)

strides_between : (k bytes m : ℕ) (r : List ℕ) (c : Record) → c.mark ≡ 0 → strides (suc k) (at bytes m r c) ≡ strides (suc k) (at bytes m r (between c.p c.flags))
unfolding strides
strides_between zero bytes m r c unmarked = step_between bytes m r c unmarked
strides_between (suc k) bytes m r c unmarked = ap (λ (x : Stepped). bind x step) (strides_between k bytes m r c unmarked)

-- some steps were done
pub proceeds_strode : (m r : List ℕ) (c : Record) (most : ℕ) (there : Record → State) (d : Did) → c.mark ≡ 0 → Strode (lent_at m r (between c.p c.flags)) most there d → 0 < d.steps
    → Proceeds (lent_at m r c) most there d
proceeds_strode m r c most there d unmarked s some =
    let e : suc (d.steps - 1) ≡ d.steps = omega arith in
    record { some = some; few = s.few; steps = (rw e at (strides_between (d.steps - 1) (length m) (num m) r c unmarked)) ∙ s.steps }

-- none was done
module _ (m r : List ℕ) (c : Record) (most : ℕ) (m' r' : List ℕ) (d : Did) (s : Strode (lent_at m r (between c.p c.flags)) most (lent_at m' r') d) (none : d.steps ≤ 0) where
  same : lent_at m r (between c.p c.flags) ≡ lent_at m' r' d.rec
  same =
      let e : d.steps ≡ 0 = omega arith in
      still _ _ (rw e at s.steps)

  -- nothing has changed
  same_lent : lent_at m r c ≡ lent_at m' r' c
  same_lent = ap (λ (t : State). at t.bytes t.memory t.registers c) same

  pub performs_same : (there : Record → State) (x : Result Did Answer) → Performs (lent_at m' r' c) most there x → Performs (lent_at m r c) most there x
  performs_same there x h = subst (λ (t : State). Performs t most there x) (sym same_lent) h

  pub starts_same : Starts (lent_at m r c) most → Starts (lent_at m' r' c) most
  starts_same h = subst (λ (t : State). Starts t most) same_lent h

  -- and the instruction at P does not take one step
  pub other_way : 0 < most → one_step_at (lent_at m' r' c) ≡ false
  other_way some = ap one_step_at (sym same_lent) ∙ ap one_step_at same ∙ s.over (omega arith)
