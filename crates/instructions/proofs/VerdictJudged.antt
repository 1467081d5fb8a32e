-- The code decodes a word once and then asks; the definition goes down the list of checks. What a word is decoded to says which of 5, 6 and 7 refuses it, or
-- that none does and which row it has.
use mathlib.Core.Path.{◌≡◌, refl, sym, ap, ◌∙◌}
use mathlib.Core.Bool.{Bool, true, false, cond}
use Prim.Native.Nat.{ℕ}
use lib.Dec.{eqb}
use borrow.Author.Tests.{eq-eqb, ne_eqb}
use Rattle.instructions.specs.declared.operands.Operands.{Operands}
use Rattle.instructions.specs.declared.layout.Fields.{Fields}
use Rattle.instructions.specs.declared.table.Row.{Row}
use Rattle.std.specs.Prelude.{Option, Result, Ok, Err}
use Rattle.instructions.specs.declared.words.Refusal.{Refusal}
use Rattle.instructions.specs.Table.{format_of, named_of, kind_of, long}
use Rattle.instructions.specs.Operands.{code_in, found_in, row_says}
use Rattle.instructions.specs.Words.{not_zero, missing, refusal_number, decoded}
use Rattle.instructions.proofs.WordsOrder.{refused_5, refused_6, refused_7, listed_passes, refused_by_word}
use Rattle.instructions.proofs.VerdictTests.{never}
use Rattle.instructions.specs.Layout.{no_fields, of_kind, fields_of}
use Rattle.instructions.specs.Fetch.{long_in, unfetched_at}
use Rattle.instructions.specs.declared.table.Kind.{Kind}
use Rattle.instructions.specs.Verdict.{misaligned, outside, overlapping, said_number, verdict_of}
use Rattle.instructions.specs.Private.Inner.{refusal_of}

-- ---- 8 to 11, over four tests, so that no rewriting looks into a record

abbrev four : Bool → Bool → Bool → Bool → ℕ
four m s o v = cond m 8 (cond s 9 (cond o 10 (cond v 11 0)))

same_four : (m m' s s' o o' v v' : Bool) → m ≡ m' → s ≡ s' → o ≡ o' → v ≡ v' → four m s o v ≡ four m' s' o' v'
same_four m m' s s' o o' v v' em es eo ev = rw (em, es, eo, ev)

pub refusal_is : (f : Fields) (n : ℕ) (m s o v : Bool) → m ≡ misaligned f → s ≡ f.short → o ≡ outside f n → v ≡ overlapping f → four m s o v ≡ refusal_of f n
unfolding refusal_of
refusal_is f n m s o v em es eo ev = same_four m _ s _ o _ v _ em es eo ev

-- ---- the others

-- how long a listed word is
pub its_length : (w : ℕ) {r : Row} → decoded w ≡ Ok r → long (format_of r) ≡ long_in w
unfolding long_in
its_length w {r} e = ap (λ (f : Option Row). row_says false (λ r. long (format_of r)) f) (sym ((listed_passes w r).0 e).0)

module _ (w : ℕ) (o : Operands) (n : ℕ) where
  -- 5 to 11 and 1, from the row that the word's code has
  abbrev after : Option Row → ℕ
  after f =
      cond (row_says true (λ r. false) f) 5
      (cond (row_says false (λ r. not_zero r w) f) 6
      (cond (row_says false (λ r. missing (named_of r) w) f) 7
      (cond (eqb (code_in w) 0x09) 1
      (refusal_of (row_says no_fields (λ r. of_kind (kind_of r) w o) f) n))))

  -- 1 and 8 to 11, from the row of a listed word
  abbrev pub listed : Row → ℕ
  listed r = cond (eqb (code_in w) 0x09) 1 (refusal_of (of_kind (kind_of r) w o) n)

  listed_after : (r : Row) → decoded w ≡ Ok r → after (found_in w) ≡ listed r
  listed_after r e = let q = (listed_passes w r).0 e in rw (q.0, q.1, q.2)

  refused_after : (why : Refusal) → decoded w ≡ Err why → after (found_in w) ≡ refusal_number why
  refused_after Refusal.NotListed e = rw ((refused_5 w).0 e)
  refused_after Refusal.NotZero e = let q = (refused_6 w).0 e in rw (q.1, q.2)
  refused_after Refusal.NoMeaning e = let q = (refused_7 w).0 e in rw (q.1, q.2, q.3)
  refused_after Refusal.NotThere e = never (sym (refused_by_word w Refusal.NotThere e))
  refused_after Refusal.Misaligned e = never (sym (refused_by_word w Refusal.Misaligned e))
  refused_after Refusal.Short e = never (sym (refused_by_word w Refusal.Short e))
  refused_after Refusal.Outside e = never (sym (refused_by_word w Refusal.Outside e))
  refused_after Refusal.Shared e = never (sym (refused_by_word w Refusal.Shared e))

  module _ (p : ℕ) where
    parts : verdict_of p w o n ≡ cond (unfetched_at p (long_in w) n) 4 (after (found_in w))
    unfolding verdict_of refusal_of fields_of
    parts = refl

    module _ {u l : Bool} (el : l ≡ long_in w) (eu : u ≡ unfetched_at p l n) where
      told : unfetched_at p (long_in w) n ≡ u
      told = ap (λ (b : Bool). unfetched_at p b n) (sym el) ∙ sym eu

      pub not_there : u ≡ true → 4 ≡ verdict_of p w o n
      not_there h = sym (parts ∙ rw (told ∙ h))

      module _ (there : u ≡ false) where
        pub refused_word : {why : Refusal} → decoded w ≡ Err why → refusal_number why ≡ verdict_of p w o n
        refused_word e = sym (parts ∙ rw (told ∙ there) (refused_after _ e))

        pub listed_word : {r : Row} → decoded w ≡ Ok r → listed r ≡ verdict_of p w o n
        listed_word {r} e = sym (parts ∙ rw (told ∙ there) (listed_after r e))

        pub exit_word : {r : Row} → decoded w ≡ Ok r → code_in w ≡ 0x09 → 1 ≡ verdict_of p w o n
        exit_word {r} e h = rw (eq-eqb _ _ h) at (listed_word e)

        pub field_word : {A : Type 0} {r : Row} {k : Kind} {f : Fields} {s said : Result A Refusal} → decoded w ≡ Ok r → (code_in w ≡ 0x09 → ⊥) → k ≡ kind_of r → f ≡ of_kind k w o
            → said_number refusal_number s ≡ refusal_of f n → s ≡ said → said_number refusal_number said ≡ verdict_of p w o n
        field_word {r = r} e h ek ef es is =
            ap (said_number refusal_number) (sym is) ∙ es ∙ ap (λ (x : Fields). refusal_of x n) (ef ∙ ap (λ (x : Kind). of_kind x w o) ek) ∙ (rw (ne_eqb _ _ h) at (listed_word e))
