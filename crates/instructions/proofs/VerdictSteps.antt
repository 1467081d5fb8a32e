-- A word that takes one step: what 8 to 11 come to for the kinds that do not go by items. A register instruction has no field, a branch a target alone, a load or a
-- store one field.
use mathlib.Core.Path.{◌≡◌, refl, sym, ap, ap₂, ◌∙◌}
use mathlib.Core.Bool.{Bool, true, false, cond, not, ◌&&◌, ◌||◌}
use Prim.Native.Nat.{ℕ, ◌+◌, ◌*◌, ◌/◌, ◌^◌}
use native.Mathlib.Omega.{arith}
use borrow.Author.Tests.{ne_eqb}
use lib.Dec.{eqb}
use Rattle.fields.specs.declared.extents.Field.{Field}
use Rattle.fields.specs.declared.extents.Unit.TheVariants.{Byte, Word}
use Rattle.fields.specs.Extents.{absent_field, empty, aligned, inside, shares}
use Rattle.instructions.specs.declared.operands.Operands.{Operands}
use Rattle.instructions.specs.declared.table.Row.{Row}
use Rattle.std.specs.Prelude.{Some, Result, Ok, Err}
use denote.Enum.Declared.{tag_of}
use denote.Enum.Bare.{tag_one}
use Rattle.instructions.specs.contracts.words.Refusal.{the_type}
use Rattle.instructions.specs.declared.words.Refusal.{Refusal}
use Rattle.instructions.specs.declared.verdict.Stop.{Stop}
use Rattle.std.specs.Result.{is_ok}
use Rattle.instructions.specs.declared.table.Kind.{Kind}
use Rattle.instructions.specs.Table.{format_of, kind_of, long, found, has_items}
use Rattle.instructions.specs.Operands.{code_in, found_in}
use Rattle.instructions.specs.Words.{refusal_number, decoded}
use Rattle.instructions.specs.Fetch.{long_in, there, two_halves_at, fetch_of, unfetched_at}
use Rattle.instructions.specs.Branches.{goes_to}
use Rattle.instructions.specs.Layout.{no_fields, addressed_item, load_at, store_at, branch_fields, of_kind}
use Rattle.instructions.specs.Verdict.{off_half_words, misaligned, outside, overlapping, stop_number, said_number, verdict_of}
use Rattle.instructions.specs.Private.Inner.{refusal_of, aligned_inside, one_step_of, cut_off}
use Rattle.instructions.specs.Instruction.{by_items, one_step, may_work}
use Rattle.instructions.proofs.TableRules.{ends, its}
use Rattle.instructions.proofs.WordsOrder.{listed_passes}
use Rattle.instructions.proofs.VerdictJudged.{refusal_is, not_there, refused_word, listed_word}
use Rattle.instructions.proofs.FetchPlaces.{first_half, short_unfetched}

-- ---- the refusal of few fields

pub none_passes : (n : ℕ) → eqb (refusal_of no_fields n) 0 ≡ true
unfolding refusal_of misaligned outside overlapping aligned inside shares
none_passes n = refl

pub branch_passes : (w : ℕ) (o : Operands) (n : ℕ) → eqb (refusal_of (branch_fields w o) n) 0 ≡ not (off_half_words (goes_to w o))
unfolding refusal_of misaligned outside overlapping aligned inside shares
branch_passes w o n = go (off_half_words (goes_to w o))
  where
    go : (m : Bool) → eqb (cond (m || false) 8 0) 0 ≡ not m
    go true = refl
    go false = refl

or_not : (b : Bool) → b ≡ (b || false)
or_not true = refl
or_not false = refl

-- aligned and inside, by the numbers of 8 and 10
by_numbers : (a i : Bool) → eqb (cond (not a) 8 (cond false 9 (cond (not i) 10 (cond false 11 0)))) 0 ≡ (a && i)
by_numbers true true = refl
by_numbers true false = refl
by_numbers false i = refl

load_aligned : (f : Field) → not (aligned f) ≡ misaligned (load_at f)
unfolding misaligned aligned
load_aligned f = or_not (not (aligned f))

load_inside : (f : Field) (n : ℕ) → not (inside f n) ≡ outside (load_at f) n
unfolding outside inside
load_inside f n = or_not (not (inside f n))

load_clear : (f : Field) → false ≡ overlapping (load_at f)
unfolding overlapping shares
load_clear f = refl

pub load_passes : (f : Field) (n : ℕ) → eqb (refusal_of (load_at f) n) 0 ≡ aligned_inside f n
load_passes f n =
    ap (λ (k : ℕ). eqb k 0) (sym (refusal_is (load_at f) n (not (aligned f)) false (not (inside f n)) false (load_aligned f) refl (load_inside f n) (load_clear f)))
    ∙ by_numbers (aligned f) (inside f n)

shares_none : (f : Field) → shares f absent_field ≡ false
unfolding shares
shares_none f = go (empty f)
  where
    go : (e : Bool) → (not e && false) ≡ false
    go true = refl
    go false = refl

store_aligned : (f : Field) → not (aligned f) ≡ misaligned (store_at f)
unfolding misaligned aligned
store_aligned f = or_not (not (aligned f))

store_inside : (f : Field) (n : ℕ) → not (inside f n) ≡ outside (store_at f) n
unfolding outside inside
store_inside f n = or_not (not (inside f n))

store_clear : (f : Field) → false ≡ overlapping (store_at f)
unfolding overlapping
store_clear f = rw (shares_none f)

pub store_passes : (f : Field) (n : ℕ) → eqb (refusal_of (store_at f) n) 0 ≡ aligned_inside f n
store_passes f n =
    ap (λ (k : ℕ). eqb k 0) (sym (refusal_is (store_at f) n (not (aligned f)) false (not (inside f n)) false (store_aligned f) refl (store_inside f n) (store_clear f)))
    ∙ by_numbers (aligned f) (inside f n)

-- ---- the kinds

and_true : (b : Bool) → b ≡ (b && true)
and_true true = refl
and_true false = refl

and_false : (b : Bool) → false ≡ (b && false)
and_false true = refl
and_false false = refl

-- by the kind, from what the table says of it: whether it is the exit's, and whether it has items
pub step_by_kind : (k : Kind) (w : ℕ) (o : Operands) (n : ℕ) → one_step_of k w o n ≡ (eqb (cond (ends k) 1 (refusal_of (of_kind k w o) n)) 0 && not (has_items k))
unfolding one_step_of of_kind
step_by_kind Kind.Exit w o n = refl
step_by_kind Kind.Register w o n = rw (none_passes n)
step_by_kind Kind.Branch w o n = rw (branch_passes w o n) (and_true (not (off_half_words (goes_to w o))))
step_by_kind Kind.LoadByte w o n = rw (load_passes (addressed_item Byte o) n) (and_true (aligned_inside (addressed_item Byte o) n))
step_by_kind Kind.StoreByte w o n = rw (store_passes (addressed_item Byte o) n) (and_true (aligned_inside (addressed_item Byte o) n))
step_by_kind Kind.LoadWord w o n = rw (load_passes (addressed_item Word o) n) (and_true (aligned_inside (addressed_item Word o) n))
step_by_kind Kind.StoreWord w o n = rw (store_passes (addressed_item Word o) n) (and_true (aligned_inside (addressed_item Word o) n))
step_by_kind Kind.Compress w o n = and_false (eqb (refusal_of (of_kind Kind.Compress w o) n) 0)
step_by_kind Kind.Merge w o n = and_false (eqb (refusal_of (of_kind Kind.Merge w o) n) 0)
step_by_kind Kind.Mask w o n = and_false (eqb (refusal_of (of_kind Kind.Mask w o) n) 0)
step_by_kind Kind.TwoSources w o n = and_false (eqb (refusal_of (of_kind Kind.TwoSources w o) n) 0)
step_by_kind Kind.OneSource w o n = and_false (eqb (refusal_of (of_kind Kind.OneSource w o) n) 0)
step_by_kind Kind.HalfResult w o n = and_false (eqb (refusal_of (of_kind Kind.HalfResult w o) n) 0)
step_by_kind Kind.Move w o n = and_false (eqb (refusal_of (of_kind Kind.Move w o) n) 0)

-- ---- the word

-- what is not in memory reads as zero, and no row has the code 00
nothing_there : (n x p : ℕ) → there p 2 n ≡ false → there p 1 n ≡ false → 0 ≡ fetch_of n x p
unfolding fetch_of two_halves_at
nothing_there n x p e f = rw (e, f) (go (long_in 0))
  where
    go : (b : Bool) → 0 ≡ cond b 0 (0 / 2 ^ 32 * 2 ^ 32)
    go true = refl
    go false = refl

zero_refused : decoded 0 ≡ Err Refusal.NotListed
unfolding decoded found
zero_refused = refl

listed_there : (n x p w : ℕ) (r : Row) → w ≡ fetch_of n x p → decoded w ≡ Ok r → there p 1 n ≡ true
listed_there n x p w r read e = go (there p 2 n) (there p 1 n) refl refl
  where
    go : (a b : Bool) → there p 2 n ≡ a → there p 1 n ≡ b → there p 1 n ≡ true
    go true b ea eb = first_half p n ea
    go false true ea eb = eb
    go false false ea eb =
        let h : Err Refusal.NotListed ≡ Ok r = sym zero_refused ∙ ap decoded (nothing_there n x p ea eb ∙ sym read) ∙ e in
        let z : ◌≡◌ {A = ℕ} 0 1 = cc in
        absurd (omega arith)

pub cut_unfetched : (n x p w : ℕ) (r : Row) → w ≡ fetch_of n x p → decoded w ≡ Ok r → (l : Bool) → l ≡ long_in w → cut_off p l n ≡ unfetched_at p (long_in w) n
cut_unfetched n x p w r read e l is = go l ∙ ap (λ (b : Bool). unfetched_at p b n) is
  where
    go : (b : Bool) → cut_off p b n ≡ unfetched_at p b n
    go true = refl
    go false = sym (sym (short_unfetched p n) ∙ ap not (listed_there n x p w r read e))

-- the number of a refusal is its place among the refusals, from 4 on
refusal_place : (why : Refusal) → refusal_number why ≡ 4 + tag_of the_type why
refusal_place Refusal.NotThere = refl
refusal_place Refusal.NotListed = refl
refusal_place Refusal.NotZero = refl
refusal_place Refusal.NoMeaning = refl
refusal_place Refusal.Misaligned = refl
refusal_place Refusal.Short = refl
refusal_place Refusal.Outside = refl
refusal_place Refusal.Shared = refl

number_some : (why : Refusal) → eqb (refusal_number why) 0 ≡ false
number_some why = ne_eqb _ _ (λ e. let x = refusal_place why in omega arith)

-- only what lets pass has the number 0
pub zero_ok : {A : Type 0} (r : Result A Stop) → eqb (said_number stop_number r) 0 ≡ is_ok r
zero_ok (Ok a) = refl
zero_ok (Err Stop.Exit) = refl
zero_ok (Err (Stop.Refused why)) = number_some why

pub one_refusal : (a b : Refusal) → refusal_number a ≡ refusal_number b → a ≡ b
one_refusal a b e = let x = refusal_place a in let y = refusal_place b in tag_one the_type tt a b (omega arith)

-- no two of what a verdict can be have one number
pub one_verdict : (a b : Result (Unit {0}) Stop) → said_number stop_number a ≡ said_number stop_number b → a ≡ b
one_verdict (Ok a) (Ok b) e = refl
one_verdict (Ok a) (Err Stop.Exit) e = absurd (omega arith)
one_verdict (Ok a) (Err (Stop.Refused why)) e = let x = refusal_place why in absurd (omega arith)
one_verdict (Err Stop.Exit) (Ok b) e = absurd (omega arith)
one_verdict (Err Stop.Exit) (Err Stop.Exit) e = refl
one_verdict (Err Stop.Exit) (Err (Stop.Refused why)) e = let x = refusal_place why in absurd (omega arith)
one_verdict (Err (Stop.Refused why)) (Ok b) e = let x = refusal_place why in absurd (omega arith)
one_verdict (Err (Stop.Refused why)) (Err Stop.Exit) e = let x = refusal_place why in absurd (omega arith)
one_verdict (Err (Stop.Refused a)) (Err (Stop.Refused b)) e = ap (λ (why : Refusal). Err (Stop.Refused why)) (one_refusal a b e)

-- the row of a listed word says whether it goes by items
pub row_items : (w : ℕ) {r : Row} → decoded w ≡ Ok r → has_items (kind_of r) ≡ by_items w
unfolding by_items
row_items w {r} e = (its (code_in w) r ((listed_passes w r).0 e).0).items

module _ (p w : ℕ) (o : Operands) (n : ℕ) where
  -- a word that is not listed is refused
  refused : (d : Result Row Refusal) → d ≡ decoded w → ((r : Row) → d ≡ Ok r → ⊥) → eqb (verdict_of p w o n) 0 ≡ false
  refused (Ok r) is lists = absurd (lists r refl)
  refused (Err why) is lists = go (unfetched_at p (long_in w) n) refl
    where
      go : (u : Bool) → u ≡ unfetched_at p (long_in w) n → eqb (verdict_of p w o n) 0 ≡ false
      go true h = rw (← not_there w o n p refl h refl)
      go false h = rw (← refused_word w o n p refl h refl (sym is)) (number_some why)

  pub refused_no_step : (d : Result Row Refusal) → d ≡ decoded w → ((r : Row) → d ≡ Ok r → ⊥) → false ≡ one_step p w o n
  unfolding one_step
  refused_no_step d is lists = rw (refused d is lists)

  pub refused_no_work : (d : Result Row Refusal) → d ≡ decoded w → ((r : Row) → d ≡ Ok r → ⊥) → false ≡ may_work p w o n
  unfolding may_work
  refused_no_work d is lists = rw (refused d is lists) (and_false (by_items w))

  module _ (x : ℕ) (read : w ≡ fetch_of n x p) (r : Row) (e : decoded w ≡ Ok r) where
    found_row : found_in w ≡ Some r
    found_row = ((listed_passes w r).0 e).0

    cut : cut_off p (long (format_of r)) n ≡ unfetched_at p (long_in w) n
    unfolding long_in
    cut = cut_unfetched n x p w r read e (long (format_of r)) (rw found_row)

    pub not_there_no_step : cut_off p (long (format_of r)) n ≡ true → false ≡ one_step p w o n
    unfolding one_step
    not_there_no_step h = rw (← not_there w o n p refl refl (sym cut ∙ h))

    pub listed_step : cut_off p (long (format_of r)) n ≡ false → one_step_of (kind_of r) w o n ≡ one_step p w o n
    unfolding one_step
    listed_step h =
        let i = its (code_in w) r found_row in
        let judged = ap (λ (b : Bool). cond b 1 (refusal_of (of_kind (kind_of r) w o) n)) i.exit ∙ listed_word w o n p refl refl (sym cut ∙ h) e in
        step_by_kind (kind_of r) w o n ∙ ap₂ (λ (v : ℕ) (b : Bool). eqb v 0 && not b) judged (row_items w e)
