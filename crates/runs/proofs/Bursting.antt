-- The items of a word are steps one by one: doing j of them at once is j steps of the definition.
use mathlib.Core.Path.{◌≡◌, ◌∙◌, ap}
use mathlib.Core.Bool.{true}
use mathlib.Core.List.{List}
use Prim.Native.Nat.{ℕ, zero, suc, ◌+◌, ◌-◌, ◌<◌, ◌≤◌, min}
use native.Mathlib.Omega.{arith}
use lib.Dec.{leb, eqb}
use Rattle.std.proofs.lemmas.Bool.{lt-ltb, le-ltb, le-leb, ne_eqb, eqb-true, leb-true, ltb-true, and_parts}
use Rattle.instructions.specs.declared.operands.Operands.{Operands}
use Rattle.instructions.specs.Fetch.{length_of}
use Rattle.instructions.specs.Operands.{gathered}
use Rattle.instructions.specs.Verdict.{verdict_of}
use Rattle.instructions.specs.Items.{worked}
use Rattle.instructions.specs.Instruction.{by_items, count_of}
use Rattle.instructions.proofs.Steps.{works_more}
use Rattle.runs.specs.declared.records.Record.{Record}
use Rattle.runs.specs.declared.strides.Did.{Did}
use Rattle.runs.specs.Records.{half_done, half, between}
use Rattle.runs.specs.Steps.{State, at, lent_at, Stepped, next, after, works_at, burst, held, step, bind, strides}
use Rattle.runs.specs.Private.Inner.{instruction, Bursts, Proceeds}

-- a word of items that passes its checks where s stands
pub record Stands (s : State) (word : ℕ) : Type 0 where
  pub passes : verdict_of s.rec.p word (gathered word s.registers) s.bytes ≡ 0
  pub of_items : by_items word ≡ true

-- what a half-done record says, by parts
pub record Holds (bytes : ℕ) (registers : List ℕ) (c : Record) : Type 0 where
  pub marked : c.mark ≡ 1
  pub of_items : by_items c.word ≡ true
  pub passes : verdict_of c.p c.word (gathered c.word registers) bytes ≡ 0
  pub some : 1 ≤ c.items
  pub short : c.items < count_of c.word (gathered c.word registers)

pub holds_of : (bytes : ℕ) (registers : List ℕ) (c : Record) → half_done bytes registers c ≡ true → Holds bytes registers c
unfolding half_done
holds_of bytes registers c h =
    let h₁ = and_parts (eqb c.mark 1) _ h in
    let h₂ = and_parts (by_items c.word) _ h₁.1 in
    let h₃ = and_parts (eqb (verdict_of c.p c.word (gathered c.word registers) bytes) 0) _ h₂.1 in
    let h₄ = and_parts (leb 1 c.items) _ h₃.1 in
    record {
      marked = eqb-true _ _ h₁.0;
      of_items = h₂.0;
      passes = eqb-true _ _ h₃.0;
      some = leb-true _ _ h₄.0;
      short = ltb-true _ _ h₄.1;
    }

-- some items of a word that passes are done, and not all
pub half_holds : (s : State) (word k f : ℕ) → Stands s word → 0 < k → k < count_of word (gathered word s.registers)
    → half_done s.bytes s.registers (half s.rec.p word k f) ≡ true
unfolding half_done
half_holds s word k f h some short = simp (h.of_items, h.passes, le-leb 1 k some, lt-ltb _ _ short)

-- a step of what is half done
pub step_held : (t : State) → half_done t.bytes t.registers t.rec ≡ true
    → step t ≡ next (burst t.rec.word (gathered t.rec.word t.registers) t.rec.items 1 t)
unfolding step held
step_held t h =
    let m = (holds_of _ _ _ h).marked in
    rw (ne_eqb t.rec.mark 0 (λ e. omega arith), h)

-- j items more are done, and not the last
pub burst_half : (word : ℕ) (o : Operands) (i j : ℕ) (s : State) → i + j < count_of word o
    → burst word o i j s ≡ at s.bytes (works_at word o i j s).memory s.registers (half s.rec.p word (i + j) (works_at word o i j s).flags)
unfolding burst after
burst_half word o i j s h = rw (lt-ltb _ _ h)

-- or the last too
pub burst_done : (word : ℕ) (o : Operands) (i j : ℕ) (s : State) → count_of word o ≤ i + j
    → burst word o i j s ≡ at s.bytes (works_at word o i j s).memory s.registers (between (s.rec.p + length_of word) (works_at word o i j s).flags)
unfolding burst after
burst_done word o i j s h = rw (le-ltb _ _ h)

-- one item more
burst_one : (word : ℕ) (o : Operands) (i j : ℕ) (s : State)
    → burst word o (i + j) 1 (at s.bytes (works_at word o i j s).memory s.registers (half s.rec.p word (i + j) (works_at word o i j s).flags))
    ≡ burst word o i (suc j) s
unfolding burst
burst_one word o i j s =
    let e : i + j + 1 ≡ i + suc j = omega arith in
    rw (e, works_more word o s.bytes i j (worked s.memory s.rec.flags))

pub burst_more : (word i j : ℕ) (s : State) → Stands s word → 0 < i + j → i + j < count_of word (gathered word s.registers)
    → step (burst word (gathered word s.registers) i j s) ≡ next (burst word (gathered word s.registers) i (suc j) s)
burst_more word i j s h some short =
    let o = gathered word s.registers in
    rw (burst_half word o i j s short)
    (step_held (at s.bytes (works_at word o i j s).memory s.registers (half s.rec.p word (i + j) (works_at word o i j s).flags)) (half_holds s word (i + j) _ h some short)
    ∙ ap next (burst_one word o i j s))

-- after the first of them, the items of a word are steps one by one
strides_burst : (word i : ℕ) (s : State) → Stands s word → step s ≡ next (burst word (gathered word s.registers) i 1 s)
    → (j : ℕ) → i + suc j ≤ count_of word (gathered word s.registers) → strides (suc j) s ≡ next (burst word (gathered word s.registers) i (suc j) s)
unfolding strides
strides_burst word i s h first zero few = first
strides_burst word i s h first (suc j) few =
    ap (λ (x : Stepped). bind x step) (strides_burst word i s h first j (omega arith)) ∙ burst_more word i (suc j) s h (omega arith) (omega arith)

pub strides_some : (word i : ℕ) (s : State) → Stands s word → step s ≡ next (burst word (gathered word s.registers) i 1 s)
    → (j : ℕ) → 0 < j → i + j ≤ count_of word (gathered word s.registers) → strides j s ≡ next (burst word (gathered word s.registers) i j s)
strides_some word i s h first zero some few = absurd (omega arith)
strides_some word i s h first (suc j) some few = strides_burst word i s h first j few

-- items i, .. of a word whose next step is item i
pub proceeds_burst : (m registers : List ℕ) (c : Record) (word i most : ℕ) → Stands (lent_at m registers c) word
    → step (lent_at m registers c) ≡ next (burst word (gathered word registers) i 1 (lent_at m registers c))
    → i < count_of word (gathered word registers) → 0 < most
    → (m' : List ℕ) (d : Did) → Bursts m (instruction c.p word (gathered word registers)) c.flags i (min (count_of word (gathered word registers) - i) most) m' d
    → Proceeds (lent_at m registers c) most (lent_at m' registers) d
unfolding burst
proceeds_burst m registers c word i most h first short some m' d b =
    let j = min (count_of word (gathered word registers) - i) most in
    record {
      some = rw b.does (omega arith);
      few = rw b.does (omega arith);
      steps = rw (b.does, b.memory, b.as_long) (strides_some word i (lent_at m registers c) h first j (omega arith) (omega arith));
    }
