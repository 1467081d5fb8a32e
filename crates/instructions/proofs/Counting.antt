-- What a code says without the table: how many items a word has, by the lengths, and what its plan is.
use mathlib.Core.Path.{◌≡◌, refl, sym, ap, ◌∙◌}
use mathlib.Core.Bool.{Bool, true, false, not, ◌||◌}
use Prim.Native.Nat.{ℕ, ◌/◌, ◌%◌, ◌^◌, ◌<◌}
use native.Mathlib.Nat.{mod-eq_of_lt, mod-lt}
use native.Mathlib.Omega.{arith}
use lib.Bits.{bit_and, and_shr, and_mod, and_mask}
use lib.Dec.{T, eqb, eqb→eq}
use lib.Pow.{pow_pos}
use borrow.Author.Tests.{eq-eqb, ne_eqb, eqb-true}
use Rattle.fields.specs.Field.{field}
use Rattle.instructions.specs.declared.operands.Operands.{Operands}
use Rattle.instructions.specs.declared.items.VectorPlan.{VectorPlan}
use Rattle.instructions.specs.Meanings.{gathers, each_of_a_b, each_of_a, half_of_a, moves, Meaning, unlisted, exits, acts, branches, works, goes_by_items}
use Rattle.instructions.specs.Table.{Line, table, row_of, zero_bits, meaning_of}
use Rattle.instructions.specs.Operands.{code_in, meaning_in, length_in}
use Rattle.instructions.specs.Words.{not_zero, missing, missing_at}
use Rattle.instructions.specs.Verdict.{checks, case_of, verdict_of}
use Rattle.instructions.specs.Plan.{Plan, vectors, items_of}
use Rattle.instructions.specs.Planned.{vector_in, plan_in}
use Rattle.instructions.specs.Instruction.{by_items, plan_of, count_of}
use Rattle.instructions.specs.Private.Inner.{Past}
use Rattle.instructions.specs.Private.Loops.{makes_at, width_at}
use Rattle.instructions.proofs.Conjunctions.{and_first, and_rest}
use Rattle.instructions.proofs.VerdictTests.{never, both_false}
use Rattle.instructions.proofs.VerdictOrder.{Passes, next, verdict_none}
use Rattle.instructions.proofs.TablePlaces.{every, means_in, Looked, has, none, looked, those}
use Rattle.instructions.proofs.ByCode.{not_of}
use Rattle.instructions.proofs.TableRules.{of_two, of_one, second_rule}

-- ---- bits, and bits or bytes, by their meaning

abbrev pub of_bits : Meaning → Bool
of_bits unlisted = false
of_bits exits = false
of_bits (acts a) = false
of_bits (branches c) = false
of_bits (works (gathers rule)) = true
of_bits (works (each_of_a_b f)) = false
of_bits (works (each_of_a f)) = false
of_bits (works (half_of_a f)) = false
of_bits (works moves) = false

abbrev pub of_bits_or_bytes : Meaning → Bool
of_bits_or_bytes unlisted = false
of_bits_or_bytes exits = false
of_bits_or_bytes (acts a) = false
of_bits_or_bytes (branches c) = false
of_bits_or_bytes (works (gathers rule)) = true
of_bits_or_bytes (works (each_of_a_b f)) = false
of_bits_or_bytes (works (each_of_a f)) = false
of_bits_or_bytes (works (half_of_a f)) = false
of_bits_or_bytes (works moves) = true

-- ---- how many

by_length : (w : ℕ) (o : Operands) (m : Meaning) → of_bits m ≡ false → length_in o.c ≡ items_of (plan_in m w o)
unfolding plan_in items_of
by_length w o unlisted e = refl
by_length w o exits e = refl
by_length w o (acts a) e = refl
by_length w o (branches c) e = refl
by_length w o (works (gathers rule)) e = never e
by_length w o (works (each_of_a_b f)) e = refl
by_length w o (works (each_of_a f)) e = refl
by_length w o (works (half_of_a f)) e = refl
by_length w o (works moves) e = refl

module _ (w : ℕ) (o : Operands) {k n : ℕ} (code : k ≡ code_in w) where
  -- of a code that is known
  pub counted_at : {j : ℕ} → k ≡ j → n ≡ items_of (plan_in (means_in j table) w o) → n ≡ count_of w o
  unfolding plan_of meaning_of
  counted_at e h = h ∙ ap (λ (i : ℕ). items_of (plan_in (meaning_of i) w o)) (sym e ∙ code)

  pub length_counts : Past (λ (l : Line). l.code) (Unit {0}) (those (λ l. of_bits l.means) table) k → n ≡ length_in o.c → n ≡ count_of w o
  unfolding plan_of
  length_counts p h = h ∙ by_length w o (meaning_of k) (not_of of_bits refl k p) ∙ ap (λ (i : ℕ). items_of (plan_in (meaning_of i) w o)) code

-- ---- which plan

-- of a code that is known
pub planned_at : (w : ℕ) (o : Operands) {k : ℕ} (code : k ≡ code_in w) {j : ℕ} {plan : Plan} → k ≡ j → plan ≡ plan_in (means_in j table) w o → plan ≡ plan_of w o
unfolding plan_of meaning_of
planned_at w o code e h = h ∙ ap (λ (i : ℕ). plan_in (meaning_of i) w o) (sym e ∙ code)

-- ---- B is named where it is a source, and 00 where only A is: of a word that passes 6 and 7

-- the bits of a field of a conjunction
field_and : (x y : ℕ) → field 64 40 8 (bit_and x y) ≡ bit_and (field 64 40 8 x) (field 64 40 8 y)
field_and x y = ap (λ (n : ℕ). n % 2 ^ 8) (and_shr x y 16) ∙ and_mod (x / 2 ^ 16) (y / 2 ^ 16) 8

low_byte : (x : ℕ) → field 64 40 8 x < 2 ^ 8
low_byte x = mod-lt (x / 2 ^ 16) (pow_pos 8)

not_not : (b : Bool) → not b ≡ false → b ≡ true
not_not true h = refl
not_not false h = never h

sixth : (a b c d e f g h : Bool) → (a || b || c || d || e || f || g || h) ≡ false → f ≡ false
sixth a b c d e f g h q = (both_false (a || b || c || d || e) f (both_false (a || b || c || d || e || f) g (both_false (a || b || c || d || e || f || g) h q).0).0).1

module _ (w : ℕ) (l : Line) where
  zero_there : field 64 40 8 (zero_bits (row_of l)) ≡ 0xFF → not_zero (row_of l) w ≡ false → field 64 40 8 w ≡ 0
  unfolding not_zero
  zero_there e h =
      let z : bit_and w (zero_bits (row_of l)) ≡ 0 = eqb-true _ 0 (not_not _ (both_false (not (eqb (bit_and w (zero_bits (row_of l))) 0)) _ h).0) in
      let f : bit_and (field 64 40 8 w) 0xFF ≡ 0 = ap (bit_and (field 64 40 8 w)) (sym e) ∙ sym (field_and w (zero_bits (row_of l))) ∙ ap (field 64 40 8) z in
      sym (and_mask (field 64 40 8 w) 8 ∙ mod-eq_of_lt (low_byte w)) ∙ f

  named_there : field 64 40 8 l.named ≡ 0xFF → missing l.named w ≡ false → field 64 40 8 w ≡ 0 → ⊥
  named_there e h z =
      let t : missing_at l.named w 40 ≡ true = rw (e, z) in
      let f : missing_at l.named w 40 ≡ false =
      sixth (missing_at l.named w 0) (missing_at l.named w 8) (missing_at l.named w 16) (missing_at l.named w 24) (missing_at l.named w 32) (missing_at l.named w 40) (missing_at l.named w 48) (missing_at l.named w 56) h in
      never (sym t ∙ f)

-- the rule of B, of a word that passes 6 and 7
abbrev Ruled : ℕ → Meaning → Type 0
Ruled w m = (of_two m ≡ true → eqb (field 64 40 8 w) 0 ≡ false) × (of_one m ≡ true → eqb (field 64 40 8 w) 0 ≡ true)

told : (a b : Bool) → T (not a || b) → a ≡ true → T b
told true b t e = t
told false b t e = never (sym e)

line_ruled : (w : ℕ) (l : Line) → T (second_rule l) → not_zero (row_of l) w ≡ false → missing l.named w ≡ false → Ruled w l.means
line_ruled w l u z y =
    let named : Bool = eqb (field 64 40 8 l.named) 0xFF in
    let nought : Bool = eqb (field 64 40 8 (zero_bits (row_of l))) 0xFF in (
      (λ h. ne_eqb (field 64 40 8 w) 0 (named_there w l (eqb→eq (field 64 40 8 l.named) 0xFF (told (of_two l.means) named (and_first (not (of_two l.means) || named) (not (of_one l.means) || nought) u) h)) y)),
      (λ h. eq-eqb (field 64 40 8 w) 0 (zero_there w l (eqb→eq (field 64 40 8 (zero_bits (row_of l))) 0xFF (told (of_one l.means) nought (and_rest (not (of_two l.means) || named) (not (of_one l.means) || nought) u) h)) z)),
    )

second_as : (p w : ℕ) (o : Operands) (n : ℕ) → verdict_of p w o n ≡ 0 → Ruled w (meaning_in w)
unfolding every
second_as p w o n passes = go (looked (code_in w)) ((verdict_none p w o n).0 passes)
  where
    go : Looked (code_in w) → Passes (case_of p w o n) checks → Ruled w (meaning_in w)
    go (none e m) q = rw m ((λ h. never (sym h)), (λ h. never (sym h)))
    go (has l c t e m) (next _ (next _ (next z (next y _)))) = rw m (line_ruled w l (t second_rule tt) (rw e at z) (rw e at y))

-- so the plan of a vector is known from its word alone
vector_as : (w : ℕ) (o : Operands) (k : ℕ) (v : VectorPlan) → v ≡ vector_in (eqb (field 64 40 8 w) 0) w o → (m : Meaning) → meaning_of k ≡ m → goes_by_items m ≡ true → of_bits_or_bytes m ≡ false → Ruled w m
    → (vectors v (width_at k) (makes_at k) ≡ plan_in m w o) × (0 < width_at k)
unfolding width_at makes_at plan_in
vector_as w o k v e unlisted em is nb ru = never (sym is)
vector_as w o k v e exits em is nb ru = never (sym is)
vector_as w o k v e (acts a) em is nb ru = never (sym is)
vector_as w o k v e (branches c) em is nb ru = never (sym is)
vector_as w o k v e (works (gathers rule)) em is nb ru = never nb
vector_as w o k v e (works moves) em is nb ru = never nb
vector_as w o k v e (works (each_of_a_b f)) em is nb ru = (rw (em, e, ru.0 refl), rw em (omega arith))
vector_as w o k v e (works (each_of_a f)) em is nb ru = (rw (em, e, ru.1 refl), rw em (omega arith))
vector_as w o k v e (works (half_of_a f)) em is nb ru = (rw (em, e, ru.1 refl), rw em (omega arith))

pub vector_plans : (p w : ℕ) (o : Operands) (n : ℕ) {k : ℕ} (v : VectorPlan) → k ≡ code_in w → by_items w ≡ true → verdict_of p w o n ≡ 0
    → Past (λ (l : Line). l.code) (Unit {0}) (those (λ l. of_bits_or_bytes l.means) table) k → v ≡ vector_in (eqb (field 64 40 8 w) 0) w o
    → (vectors v (width_at k) (makes_at k) ≡ plan_of w o) × (0 < width_at k)
unfolding by_items plan_of
vector_plans p w o n {k} v code is passes q e =
    vector_as w o k v e (meaning_in w) (ap meaning_of code) is (ap of_bits_or_bytes (ap meaning_of (sym code)) ∙ not_of of_bits_or_bytes refl k q) (second_as p w o n passes)
