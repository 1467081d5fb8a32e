-- What the layer above may use of an instruction, whatever it does.
use mathlib.Core.Path.{◌≡◌, refl, subst, ◌∙◌}
use mathlib.Core.Bool.{Bool, true, false, cond, ◌&&◌}
use mathlib.Core.List.{List, [], ◌∷◌}
use mathlib.Core.Logic.{◌⊎◌, inl, inr}
use Prim.Native.Nat.{ℕ, zero, suc, ◌+◌, ◌*◌, ◌%◌, ◌^◌, ◌≤◌, ◌<◌}
use native.Mathlib.Nat.{mod-lt, mod-eq_of_lt}
use native.Mathlib.Omega.{arith}
use lib.Dec.{leb, eqb, lit<, lit≤}
use lib.ListN.{length}
use lib.Pow.{pow_pos}
use borrow.Author.Tests.{leb-true, not-false}
use Rattle.fields.specs.Memory.{right_length, origin}
use Rattle.numbers.proofs.Raised.{Among, either}
use Rattle.instructions.specs.declared.operands.Operands.{Operands}
use Rattle.instructions.specs.declared.layout.Fields.{Fields}
use Rattle.instructions.specs.declared.effects.Outcome.{Outcome}
use Rattle.std.specs.Prelude.{Some, None}
use Rattle.instructions.specs.Meanings.{to_t, to_half_t, loads_byte, loads_word, stores_byte, stores_word, gathers, each_of_a_b, each_of_a, half_of_a, moves, Meaning, unlisted, exits, acts, branches, works, kind_for}
use Rattle.instructions.specs.Operands.{code_in, meaning_in}
use Rattle.instructions.specs.Fetch.{long_in, length_of, there, unfetched_at}
use Rattle.instructions.specs.Branches.{taken_of, target_of, branch_of}
use Rattle.instructions.specs.Layout.{branch_fields, of_kind, fields_of}
use Rattle.instructions.specs.Verdict.{Case, NumberedCheck, checks, case_of, first_number, verdict_of}
use Rattle.instructions.specs.Effects.{next_p}
use Rattle.instructions.specs.Scalars.{outcome_in, scalar_of}
use Rattle.instructions.specs.Items.{Shape, stored_at, made_at, flags_at, MemoryAndFlags, turns, whole}
use Rattle.instructions.specs.Plan.{shape_of}
use Rattle.instructions.specs.Planned.{plan_in}
use Rattle.instructions.specs.Instruction.{by_items, plan_of, count_of, works_of, whole_of, acts_of}
use Rattle.instructions.proofs.FetchPlaces.{there_ends, long_unfetched, short_unfetched}
use Rattle.instructions.proofs.VerdictOrder.{Passes, next, verdict_none}
use Rattle.instructions.proofs.VerdictMeaning.{Passed, verdict_passed}
use Rattle.instructions.proofs.VerdictTests.{both_true}
use Rattle.instructions.proofs.AppliedOnce.{registers_as_long}
use Rattle.instructions.proofs.Outcomes.{Raises, raises, scalar_flags}
use Rattle.instructions.proofs.Promised.{plan_agrees}
use Rattle.instructions.proofs.Readied.{accepted}
use Rattle.instructions.proofs.LayoutMade.{fields_mean}
use Rattle.instructions.proofs.Unions.{or_among}

-- ---- items

-- no items, and one item more
pub works_none : (word : ℕ) (o : Operands) (bytes from : ℕ) (w : MemoryAndFlags) → works_of word o bytes from 0 w ≡ w
unfolding works_of
works_none word o bytes from w = refl

pub works_more : (word : ℕ) (o : Operands) (bytes from j : ℕ) (w : MemoryAndFlags) → works_of word o bytes from (suc j) w ≡ works_of word o bytes (from + j) 1 (works_of word o bytes from j w)
unfolding works_of
works_more word o bytes from j w = let e : from + j + 0 ≡ from + j = omega arith in rw e

-- the first k items of a word that passes, in turn or at once
pub works_whole : (p word : ℕ) (o : Operands) (bytes : ℕ) → right_length bytes ≡ true → verdict_of p word o bytes ≡ 0 → by_items word ≡ true
    → (k : ℕ) → k ≤ count_of word o → (w : MemoryAndFlags) → works_of word o bytes 0 k w ≡ whole_of word o bytes k w
unfolding works_of whole_of
works_whole p word o bytes lent passes is k le w = plan_agrees (8 * bytes) (plan_of word o) (accepted p word o bytes is passes) w k le

-- items raise no flags but the three
plan_among : (m : Meaning) (w : ℕ) (o : Operands) → Raises m → (x y : ℕ) → Among ((shape_of (plan_in m w o)).makes x y).flags
unfolding shape_of plan_in
plan_among unlisted w o r x y = refl
plan_among exits w o r x y = refl
plan_among (acts a) w o r x y = refl
plan_among (branches c) w o r x y = refl
plan_among (works (gathers rule)) w o r x y = refl
plan_among (works (each_of_a_b f)) w o r x y = r x y
plan_among (works (each_of_a f)) w o r x y = r x
plan_among (works (half_of_a f)) w o r x y = r x
plan_among (works moves) w o r x y = refl

module _ (s : Shape) (raised : (x y : ℕ) → Among (s.makes x y).flags) where
  item_among : (L i x : ℕ) → Among (flags_at s L i x)
  unfolding flags_at made_at
  item_among L i x = either Among (stored_at s L i x) (raised _ _) refl

  turns_among : (L from k : ℕ) (w : MemoryAndFlags) → Among w.flags → Among (turns s L from k w).flags
  turns_among L from zero w h = h
  turns_among L from (suc k) w h = or_among (turns s L from k w).flags _ (turns_among L from k w h) (item_among L (from + k) (turns s L from k w).memory)

pub works_flags : (word : ℕ) (o : Operands) (bytes from count : ℕ) (w : MemoryAndFlags) → Among w.flags → Among (works_of word o bytes from count w).flags
unfolding works_of plan_of
works_flags word o bytes from count w h = turns_among (shape_of (plan_of word o)) (plan_among (meaning_in word) word o (raises (code_in word))) (8 * bytes) from count w h

-- ---- the verdict

-- n is the number of one of the checks
abbrev pub NumberIn : ℕ → List NumberedCheck → Type 0
NumberIn n [] = ⊥
NumberIn n (k ∷ ks) = (n ≡ k.number) ⊎ NumberIn n ks

-- what a list of checks says is 0, or the number of one of them
first_known : (ks : List NumberedCheck) (c : Case) → (first_number ks c ≡ 0) ⊎ NumberIn (first_number ks c) ks
first_known [] c = inl refl
first_known (k ∷ ks) c = go (k.refuses c) (first_known ks c)
  where
    go : (b : Bool) → (first_number ks c ≡ 0) ⊎ NumberIn (first_number ks c) ks → (cond b k.number (first_number ks c) ≡ 0) ⊎ NumberIn (cond b k.number (first_number ks c)) (k ∷ ks)
    go true h = inr (inl refl)
    go false (inl e) = inl e
    go false (inr i) = inr (inr i)

pub verdict_known : (p word : ℕ) (o : Operands) (bytes : ℕ) → (verdict_of p word o bytes ≡ 0) ⊎ NumberIn (verdict_of p word o bytes) checks
unfolding verdict_of
verdict_known p word o bytes = first_known checks (case_of p word o bytes)

-- a word is one half word or two
pub length_whole : (word : ℕ) → length_of word % 32 ≡ 0
length_whole word = either (λ (n : ℕ). n % 32 ≡ 0) (long_in word) refl refl

-- a word that passes lies in memory
pub verdict_there : (p word : ℕ) (o : Operands) (bytes : ℕ) → right_length bytes ≡ true → verdict_of p word o bytes ≡ 0 → p + length_of word ≤ origin + 8 * bytes
verdict_there p word o bytes lent passes = go ((verdict_none p word o bytes).0 passes)
  where
    by_length : (b : Bool) → unfetched_at p b bytes ≡ false → p + cond b 64 32 ≤ origin + 8 * bytes
    by_length true e = let t = there_ends p 2 bytes (lit< tt) (lit≤ tt) (not-false (there p 2 bytes) (long_unfetched p bytes ∙ e)) in let l = t.1.0 in omega arith
    by_length false e = let t = there_ends p 1 bytes (lit< tt) (lit≤ tt) (not-false (there p 1 bytes) (short_unfetched p bytes ∙ e)) in let l = t.1.0 in omega arith

    go : Passes (case_of p word o bytes) checks → p + length_of word ≤ origin + 8 * bytes
    go (next e _) = by_length (long_in word) e

-- ---- register instructions

module _ (p word : ℕ) (o : Operands) (bytes memory : ℕ) (registers : List ℕ) (flags : ℕ) where
  -- as many registers, and no flags but the three
  pub acts_registers : length (acts_of p word o bytes memory registers flags).registers ≡ length registers
  unfolding acts_of
  acts_registers = registers_as_long (scalar_of word o bytes memory).effect registers

  pub acts_flags : Among flags → Among (acts_of p word o bytes memory registers flags).flags
  unfolding acts_of
  acts_flags h = or_among flags (scalar_of word o bytes memory).flags h (scalar_flags word o bytes memory)

-- where control goes: to the word that follows, or to a taken target
abbrev Goes : ℕ → Operands → Outcome → Type 0
Goes w o r = (r.target ≡ None) ⊎ ((r.target ≡ Some (target_of o)) × ((taken_of w o ≡ true) × (fields_of w o ≡ branch_fields w o)))

branch_goes : (w : ℕ) (o : Operands) → fields_of w o ≡ branch_fields w o → Goes w o (branch_of w o)
unfolding branch_of
branch_goes w o f = go (taken_of w o) refl
  where
    go : (b : Bool) → taken_of w o ≡ b → (cond b (Some (target_of o)) None ≡ None) ⊎ ((cond b (Some (target_of o)) None ≡ Some (target_of o)) × ((taken_of w o ≡ true) × (fields_of w o ≡ branch_fields w o)))
    go true e = inr (refl, (e, f))
    go false e = inl refl

scalar_goes : (w : ℕ) (o : Operands) (bytes x : ℕ) → Goes w o (scalar_of w o bytes x)
unfolding scalar_of of_kind
scalar_goes w o bytes x = go (meaning_in w) (fields_mean w o)
  where
    go : (m : Meaning) → fields_of w o ≡ of_kind (kind_for m) w o → Goes w o (outcome_in m w o bytes x)
    go unlisted f = inl refl
    go exits f = inl refl
    go (acts (to_t g)) f = inl refl
    go (acts (to_half_t g)) f = inl refl
    go (acts loads_byte) f = inl refl
    go (acts loads_word) f = inl refl
    go (acts stores_byte) f = inl refl
    go (acts stores_word) f = inl refl
    go (branches c) f = branch_goes w o f
    go (works k) f = inl refl

-- a right P
pub acts_place : (p word : ℕ) (o : Operands) (bytes memory : ℕ) (registers : List ℕ) (flags : ℕ) → right_length bytes ≡ true → verdict_of p word o bytes ≡ 0 → by_items word ≡ false
    → p < 2 ^ 48 → p % 32 ≡ 0 → ((acts_of p word o bytes memory registers flags).p < 2 ^ 48) × ((acts_of p word o bytes memory registers flags).p % 32 ≡ 0)
unfolding acts_of
acts_place p word o bytes memory registers flags lent passes not_items low whole = go (scalar_goes word o bytes memory)
  where
    few : bytes ≤ 65536
    few = leb-true bytes 65536 (both_true (leb 8 bytes) (leb bytes 65536) (both_true (leb 8 bytes && leb bytes 65536) (eqb (bytes % 8) 0) lent).0).1

    Right : ℕ → Type 0
    Right n = (n < 2 ^ 48) × (n % 32 ≡ 0)

    follows : Right ((p + length_of word) % 2 ^ 48)
    follows =
        let t = verdict_there p word o bytes lent passes in
        let f = few in
        let l = length_whole word in
        let e : (p + length_of word) % 2 ^ 48 ≡ p + length_of word = mod-eq_of_lt {n = p + length_of word} {m = 2 ^ 48} (omega arith) in
        rw e (omega arith, omega arith)

    target : taken_of word o ≡ true → fields_of word o ≡ branch_fields word o → Right (target_of o).0
    target t f =
        let q : Passed (branch_fields word o) bytes = subst (λ (g : Fields). Passed g bytes) f (verdict_passed p word o bytes passes) in
        (mod-lt _ (pow_pos 48), q.target_aligned (target_of o) (rw t))

    go : Goes word o (scalar_of word o bytes memory) → Right (next_p p (length_of word) (scalar_of word o bytes memory).target)
    go (inl e) = rw e follows
    go (inr (e, (t, f))) = rw e (target t f)
