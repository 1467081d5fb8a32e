-- What the step of an instruction that no check refuses asks of the layers' functions, and what it comes to.
use mathlib.Core.Path.{◌≡◌, refl, sym, subst}
use mathlib.Core.List.{List}
use Prim.Native.Nat.{ℕ, ◌+◌, ◌≤◌, ◌<◌}
use lib.Bits.{bit_or}
use lib.ListN.{length}
use Rattle.fields.specs.Bytes.{num}
use Rattle.instructions.specs.declared.operands.Operands.{Operands}
use Rattle.instructions.specs.declared.effects.Outcome.{Outcome}
use Rattle.instructions.specs.Fetch.{length_of}
use Rattle.instructions.specs.Effects.{next_p}
use Rattle.instructions.specs.Scalars.{scalar_of}
use Rattle.instructions.specs.Items.{worked}
use Rattle.instructions.specs.Plan.{Plan, vectors, shape_of, items_of}
use Rattle.instructions.specs.Private.Loops.{width_at, makes_at, Turned}
use Rattle.instructions.specs.declared.items.VectorPlan.{VectorPlan}
use Rattle.instructions.specs.Private.Accepted.{Ready, AddressThere, Applied, Reaches}
use Rattle.instructions.specs.Instruction.{Workable, plan_of, works_of, leaving, acts_of}
use Rattle.instructions.proofs.Outcomes.{reached_reaches}
use Rattle.instructions.proofs.Readied.{ready}

pub work_asks : (m : List ℕ) (p w : ℕ) (o : Operands) {plan : Plan} (from count : ℕ) → Workable p w o (length m) from count → plan ≡ plan_of w o
    → Ready m plan × (from + count ≤ items_of plan)
work_asks m p w o from count may e = rw e (ready m p w o may.0 may.2 may.1, may.3)

-- a vector's, whose code says what is made
pub vector_asks : (m : List ℕ) (p w : ℕ) (o : Operands) (v : VectorPlan) (k from count : ℕ) → Workable p w o (length m) from count
    → (vectors v (width_at k) (makes_at k) ≡ plan_of w o) × (0 < width_at k)
    → Ready m (vectors v (width_at k) (makes_at k)) × (from + count ≤ v.items) × (0 < width_at k)
unfolding items_of
vector_asks m p w o v k from count may is =
    let q = work_asks m p w o from count may is.0 in
    (q.0, q.1, is.1)

pub work_did : (w : ℕ) (o : Operands) (plan : Plan) (from count : ℕ) (m : List ℕ) (f : ℕ) (m' : List ℕ) (f' : ℕ) → plan ≡ plan_of w o → Turned (shape_of plan) from count m f m' f'
    → (length m' ≡ length m) × (worked (num m') f' ≡ works_of w o (length m) from count (worked (num m) f))
unfolding works_of
work_did w o plan from count m f m' f' e t = (t.as_long, rw (← e) t.does)

pub none_did : (w : ℕ) (o : Operands) (from count : ℕ) (m : List ℕ) (f : ℕ) → count ≡ 0
    → (length m ≡ length m) × (worked (num m) f ≡ works_of w o (length m) from count (worked (num m) f))
unfolding works_of
none_did w o from count m f e = (refl, rw e)

pub apply_asks : (m : List ℕ) (w : ℕ) (o : Operands) (u : Outcome) → u ≡ scalar_of w o (length m) (num m) → AddressThere w o m → Reaches u.effect m
apply_asks m w o u e r = subst (λ (v : Outcome). Reaches v.effect m) (sym e) (reached_reaches w o m r)

pub act_did : (p w : ℕ) (o : Operands) (m r : List ℕ) (f : ℕ) (m' r' : List ℕ) (u : Outcome) (to bits : ℕ) → u ≡ scalar_of w o (length m) (num m) → Applied u.effect m r m' r'
    → bits ≡ length_of w → to ≡ next_p p bits u.target → (length m' ≡ length m) × (leaving (num m') r' to (bit_or f u.flags) ≡ acts_of p w o (length m) (num m) r f)
unfolding acts_of
act_did p w o m r f m' r' u to bits e a eb et = (a.as_long, rw (← e, ← eb, ← et, a.memory, a.registers))
