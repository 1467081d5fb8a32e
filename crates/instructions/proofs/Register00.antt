-- Register 00 is neither read nor written. As a designator 00 supplies a fixed word, or nothing; and where a result goes to a register, 7 refuses it.
use mathlib.Core.Path.{◌≡◌, refl, sym, ap, ◌∙◌}
use mathlib.Core.Bool.{Bool, true, false, cond, not, ◌&&◌, ◌||◌, false≢true}
use mathlib.Core.List.{List, [], ◌∷◌}
use Prim.Native.Nat.{ℕ, zero, suc, ◌/◌}
use native.Mathlib.Omega.{arith}
use lib.Bits.{bit_and}
use lib.Dec.{eqb, T, eqb→eq}
use lib.ListN.{get_or, set}
use lib.Seq.{get_or-set_other}
use borrow.Author.Tests.{eqb-false}
use Rattle.fields.specs.Field.{field}
use Rattle.instructions.specs.declared.operands.Operands.{Operands}
use Rattle.instructions.specs.declared.effects.Effect.{Effect}
use Rattle.instructions.specs.declared.effects.Effect.TheVariants.{Nothing, Register, HalfRegister, Byte, Word}
use Rattle.instructions.specs.Meanings.{to_t, to_half_t, loads_byte, loads_word, stores_byte, stores_word, Meaning, unlisted, exits, acts, branches, works}
use Rattle.instructions.specs.Table.{named_of}
use Rattle.instructions.specs.Operands.{code_in, found_in, meaning_in, row_says, supplied, gathered}
use Rattle.instructions.specs.Words.{missing_at, missing}
use Rattle.instructions.specs.Verdict.{checks, case_of, verdict_of}
use Rattle.instructions.specs.Effects.{registers_after}
use Rattle.instructions.specs.Branches.{branch_of}
use Rattle.instructions.specs.Scalars.{outcome_in, scalar_of}
use Rattle.instructions.specs.Instruction.{Done, leaving, acts_of}
use Rattle.instructions.proofs.VerdictTests.{both_false}
use Rattle.instructions.proofs.VerdictOrder.{Passes, next, verdict_none}
use Rattle.instructions.proofs.TablePlaces.{every, Looked, has, none, looked}
use Rattle.instructions.proofs.TableRules.{result_named, result_rule}

-- ---- not read

supplied_spared : (registers : List ℕ) (v t : ℕ) → supplied (set registers 0 v) t ≡ supplied registers t
unfolding supplied
supplied_spared registers v t = go (eqb t 0) refl
  where
    go : (b : Bool) → eqb t 0 ≡ b → cond b 0x8000_0000_0000_0000 (get_or (set registers 0 v) t 0) ≡ cond b 0x8000_0000_0000_0000 (get_or registers t 0)
    go true e = refl
    go false e = get_or-set_other registers 0 t v 0 (eqb-false _ _ e)

pub gathered_spared : (w : ℕ) (registers : List ℕ) (v : ℕ) → gathered w (set registers 0 v) ≡ gathered w registers
unfolding gathered
gathered_spared w registers v = simp (supplied_spared registers v)

-- ---- not written

-- an effect on no register, or on another
abbrev Spares : Effect → Type 0
Spares Nothing = Unit {0}
Spares (Register t v) = t ≡ 0 → ⊥
Spares (HalfRegister t v) = t / 2 ≡ 0 → ⊥
Spares (Byte a v) = Unit {0}
Spares (Word a v) = Unit {0}

set_apart : (registers : List ℕ) (t u v : ℕ) → (t ≡ 0 → ⊥) → set (set registers 0 v) t u ≡ set (set registers t u) 0 v
set_apart [] t u v h = refl
set_apart (x ∷ registers) zero u v h = absurd (h refl)
set_apart (x ∷ registers) (suc t) u v h = refl

registers_spared : (e : Effect) (registers : List ℕ) (v : ℕ) → Spares e → registers_after e (set registers 0 v) ≡ set (registers_after e registers) 0 v
registers_spared Nothing registers v h = refl
registers_spared (Register t u) registers v h = set_apart registers t u v h
registers_spared (HalfRegister t u) registers v h = rw (get_or-set_other registers 0 (t / 2) v 0 h) (set_apart registers (t / 2) _ v h)
registers_spared (Byte a u) registers v h = refl
registers_spared (Word a u) registers v h = refl

-- what an instruction has done, with v in register 00
abbrev pub done00 : ℕ → Done → Done
done00 v d = leaving d.memory (set d.registers 0 v) d.p d.flags

-- a designator that 7 has let pass is not 00, and a half word neither 00 nor 01
let_pass : (m t : ℕ) → m ≡ 0xFF → (not (eqb m 0) && eqb (bit_and t m) 0) ≡ false → t ≡ 0 → ⊥
let_pass m t e h z = false≢true (sym (rw (e, z) at h))

half_let_pass : (m t : ℕ) → m ≡ 0xFE → (not (eqb m 0) && eqb (bit_and t m) 0) ≡ false → t / 2 ≡ 0 → ⊥
half_let_pass m zero e h z = false≢true (sym (rw e at h))
half_let_pass m (suc zero) e h z = false≢true (sym (rw e at h))
half_let_pass m (suc (suc t)) e h z = omega arith

-- the fourth of the eight, and the last
fourth_and_last : (a b c d e f g h : Bool) → (a || b || c || d || e || f || g || h) ≡ false → (d ≡ false) × (h ≡ false)
fourth_and_last a b c d e f g h q =
    let q₇ = both_false (a || b || c || d || e || f || g) h q in
    let q₆ = both_false (a || b || c || d || e || f) g q₇.0 in
    let q₅ = both_false (a || b || c || d || e) f q₆.0 in
    let q₄ = both_false (a || b || c || d) e q₅.0 in
    ((both_false (a || b || c) d q₄.0).1, q₇.1)

module _ (p w : ℕ) (o : Operands) (bytes : ℕ) (passes : verdict_of p w o bytes ≡ 0) where
  let_by : row_says false (λ r. missing (named_of r) w) (found_in w) ≡ false
  let_by = go ((verdict_none p w o bytes).0 passes)
    where
      go : Passes (case_of p w o bytes) checks → row_says false (λ r. missing (named_of r) w) (found_in w) ≡ false
      go (next _ (next _ (next _ (next e _)))) = e

  -- what comes of a meaning, where the designator of its result is named and is not 00
  spares : (m : Meaning) (mask x : ℕ) → T (result_named m mask) → missing_at mask w 24 ≡ false → missing_at mask w 56 ≡ false → Spares (outcome_in m w o bytes x).effect
  unfolding branch_of
  spares unlisted mask x t h i = tt
  spares exits mask x t h i = tt
  spares (acts (to_t f)) mask x t h i = let_pass (field 64 24 8 mask) _ (eqb→eq _ 0xFF t) h
  spares (acts (to_half_t f)) mask x t h i = half_let_pass (field 64 24 8 mask) _ (eqb→eq _ 0xFE t) h
  spares (acts loads_byte) mask x t h i = let_pass (field 64 24 8 mask) _ (eqb→eq _ 0xFF t) h
  spares (acts loads_word) mask x t h i = let_pass (field 64 24 8 mask) _ (eqb→eq _ 0xFF t) h
  spares (acts stores_byte) mask x t h i = tt
  spares (acts stores_word) mask x t h i = tt
  spares (branches c) mask x t h i = let_pass (field 64 56 8 mask) _ (eqb→eq _ 0xFF t) i
  spares (works k) mask x t h i = tt

  scalar_spares : (x : ℕ) → Spares (scalar_of w o bytes x).effect
  unfolding scalar_of every
  scalar_spares x = go (looked (code_in w))
    where
      go : Looked (code_in w) → Spares (outcome_in (meaning_in w) w o bytes x).effect
      go (has l c q h e) =
          let at = missing_at l.named w in
          let both = fourth_and_last (at 0) (at 8) (at 16) (at 24) (at 32) (at 40) (at 48) (at 56) (sym (ap (row_says false (λ r. missing (named_of r) w)) h) ∙ let_by) in
          rw e (spares l.means l.named x (q result_rule tt) both.0 both.1)
      go (none h e) = rw e tt

  pub acts_spared : (memory : ℕ) (registers : List ℕ) (flags v : ℕ)
      → acts_of p w o bytes memory (set registers 0 v) flags ≡ done00 v (acts_of p w o bytes memory registers flags)
  unfolding acts_of
  acts_spared memory registers flags v =
      let d = acts_of p w o bytes memory registers flags in
      ap (λ (rs : List ℕ). leaving d.memory rs d.p d.flags) (registers_spared (scalar_of w o bytes memory).effect registers v (scalar_spares memory))
