-- How a code is looked up: a code that is none of the first ones is looked up among the others. So what the cases of the look-up show is the row of the code; and of
-- any code it is known which line has it, and that it passes every test that the whole table passes, or that none has it.
use mathlib.Core.Path.{◌≡◌, refl, sym}
use mathlib.Core.Bool.{Bool, true, false, not, cond, ◌&&◌}
use mathlib.Core.List.{List, [], ◌∷◌, ◌++◌}
use Prim.Native.Nat.{ℕ}
use lib.Dec.{eqb, T}
use lib.ListN.{length}
use borrow.Author.Tests.{eqb-true, eq-eqb, ne_eqb}
use Rattle.std.specs.Prelude.{Option, Some, None, slice_get}
use Rattle.std.proofs.Common.{Bor}
use Rattle.std.specs.Option.{option_copied}
use Rattle.std.specs.Slice.{IsItemAt}
use Rattle.std.proofs.lemmas.Option.{slice_get_past, slice_get_read}
use Rattle.instructions.specs.Meanings.{Meaning, unlisted}
use Rattle.instructions.specs.Table.{Line, row_of, table, look_up, find, found, meaning_of}
use Rattle.instructions.specs.Private.Inner.{Past}
use Rattle.instructions.proofs.Conjunctions.{and_first, and_rest}

-- ---- a code that is none of the first ones

module _ {A B : Type 0} (code : A → ℕ) (says : A → B) (none : B) (k : ℕ) where
  past_left : (N : Type 0) (xs : List A) → Past code N xs k → N
  past_left N [] p = p
  past_left N (x ∷ xs) p = (past_left (N × (k ≡ code x → ⊥)) xs p).0

  pub past : (N : Type 0) (xs ys : List A) → Past code N xs k → look_up code says none k (xs ++ ys) ≡ look_up code says none k ys
  past N [] ys p = refl
  past N (x ∷ xs) ys p =
      let q : N × (k ≡ code x → ⊥) = past_left (N × (k ≡ code x → ⊥)) xs p in
      rw (ne_eqb k (code x) q.1) (past (N × (k ≡ code x → ⊥)) xs ys p)

-- ---- the line of a code

-- all of a list pass a test
unfoldable pub every : {A : Type 0} → (A → Bool) → List A → Bool
every f [] = true
every f (x ∷ xs) = f x && every f xs

-- the meaning of the first line with the code k
abbrev pub means_in : ℕ → List Line → Meaning
means_in k ls = look_up (λ l. l.code) (λ l. l.means) unlisted k ls

pub data LookedIn (ls : List Line) (k : ℕ) : Type 0 where
  listed : (l : Line) → l.code ≡ k → ((f : Line → Bool) → T (every f ls) → T (f l)) → find k ls ≡ Some (row_of l) → means_in k ls ≡ l.means → LookedIn ls k
  absent : find k ls ≡ None → means_in k ls ≡ unlisted → LookedIn ls k

looked_in : (ls : List Line) (k : ℕ) → LookedIn ls k
unfolding every
looked_in [] k = absent refl refl
looked_in (l ∷ ls) k = go (looked_in ls k) (eqb k l.code) refl
  where
    go : LookedIn ls k → (b : Bool) → eqb k l.code ≡ b → LookedIn (l ∷ ls) k
    go q true e = listed l (sym (eqb-true k l.code e)) (λ f t. and_first (f l) (every f ls) t) (rw e) (rw e)
    go (listed l' c t f m) false e = listed l' c (λ g u. t g (and_rest (g l) (every g ls) u)) (rw e f) (rw e m)
    go (absent f m) false e = absent (rw e f) (rw e m)

-- of the whole table
pub data Looked (k : ℕ) : Type 0 where
  has : (l : Line) → l.code ≡ k → ((f : Line → Bool) → T (every f table) → T (f l)) → found k ≡ Some (row_of l) → meaning_of k ≡ l.means → Looked k
  none : found k ≡ None → meaning_of k ≡ unlisted → Looked k

pub looked : (k : ℕ) → Looked k
unfolding found meaning_of
looked k = go (looked_in table k)
  where
    go : LookedIn table k → Looked k
    go (listed l c t f m) = has l c t f m
    go (absent f m) = none f m

-- ---- a code that is none of those that pass a test

-- those that pass
abbrev pub those : (Line → Bool) → List Line → List Line
those f [] = []
those f (l ∷ ls) = cond (f l) (l ∷ those f ls) (those f ls)

module _ (f : Line → Bool) (k : ℕ) where
  abbrev elsewhere : Line → Bool
  elsewhere l = cond (f l) (not (eqb k l.code)) true

  not_those : (N : Type 0) (ls : List Line) → Past (λ (l : Line). l.code) N (those f ls) k → T (every elsewhere ls)
  unfolding every
  not_those N [] p = tt
  not_those N (l ∷ ls) p = go (λ M q. not_those M ls q) (f l) p
    where
      go : ((M : Type 0) → Past (λ (x : Line). x.code) M (those f ls) k → T (every elsewhere ls)) → (b : Bool)
          → Past (λ (x : Line). x.code) N (cond b (l ∷ those f ls) (those f ls)) k → T (cond b (not (eqb k l.code)) true && every elsewhere ls)
      go rest true q =
          let d : N × (k ≡ l.code → ⊥) = past_left (λ (x : Line). x.code) (λ (x : Line). x) l k (N × (k ≡ l.code → ⊥)) (those f ls) q in
          rw (ne_eqb k l.code d.1) (rest (N × (k ≡ l.code → ⊥)) q)
      go rest false q = rest N q

  -- what the last case of a match shows, where the other cases are the codes of the lines that pass: the code's own line does not pass
  pub other : Past (λ (l : Line). l.code) (Unit {0}) (those f table) k → (l : Line) → l.code ≡ k → ((g : Line → Bool) → T (every g table) → T (g l)) → f l ≡ false
  other p l e t = go (f l) (t elsewhere (not_those (Unit {0}) table p))
    where
      go : (b : Bool) → T (cond b (not (eqb k l.code)) true) → b ≡ false
      go true h = absurd (rw (eq-eqb k l.code (sym e)) at h)
      go false h = refl

-- ---- by place

-- an element that is lent and copied, or none past the end
pub copied : {X : Type 0} (xs : List X) (i : ℕ) (r : Option (Bor X)) → IsItemAt xs i r → option_copied r ≡ slice_get xs i
copied xs i None h = sym (slice_get_past xs i h.3)
copied xs i (Some b) h = sym (slice_get_read xs (length xs) i b.now refl h.3.0 h.1)
