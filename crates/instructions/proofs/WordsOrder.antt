-- The order of 5, 6 and 7 is a law: each is given exactly when its own test holds and no earlier one does. By the cases of the look-up and of the two tests.
use mathlib.Core.Path.{◌≡◌, refl, sym, ap, ◌∙◌}
use mathlib.Core.Logic.{◌↔◌}
use mathlib.Core.Bool.{Bool, true, false, cond}
use Prim.Native.Nat.{ℕ}
use native.Mathlib.Omega.{arith}
use Rattle.fields.specs.Field.{field}
use Rattle.instructions.specs.declared.table.Row.{Row}
use Rattle.std.specs.Prelude.{Option, Some, None, Result, Ok, Err}
use Rattle.instructions.specs.declared.words.Parts.{Parts}
use Rattle.instructions.specs.declared.words.Refusal.{Refusal}
use Rattle.instructions.specs.Table.{named_of, found}
use Rattle.instructions.specs.Words.{parts_of, joined, not_zero, missing, decoded_at, decoded, reading_at, reading, assembled_at, assembled}

-- the two tests of a listed code, with their outcomes z and m
abbrev outcome : Row → Bool → Bool → Result Row Refusal
outcome r z m = cond z (Err Refusal.NotZero) (cond m (Err Refusal.NoMeaning) (Ok r))

-- the decoding d of a code's look-up f
abbrev Unlisted : Option Row → Type 0
Unlisted f = f ≡ None

abbrev Strays : ℕ → Option Row → Type 0
Strays w f = (r : Row) × (f ≡ Some r) × (not_zero r w ≡ true)

abbrev Lacks : ℕ → Option Row → Type 0
Lacks w f = (r : Row) × (f ≡ Some r) × (not_zero r w ≡ false) × (missing (named_of r) w ≡ true)

five : (w : ℕ) (f : Option Row) → decoded_at w f ≡ Err Refusal.NotListed → Unlisted f
five w None e = refl
five w (Some r) e = go (not_zero r w) (missing (named_of r) w) e
  where
    go : (z m : Bool) → outcome r z m ≡ Err Refusal.NotListed → Some r ≡ None
    go true m e = cc
    go false true e = cc
    go false false e = cc

six : (w : ℕ) (f : Option Row) → decoded_at w f ≡ Err Refusal.NotZero → Strays w f
six w None e = let z : ◌≡◌ {A = ℕ} 0 1 = cc in absurd (omega arith)
six w (Some r) e = (r, refl, go (not_zero r w) (missing (named_of r) w) e)
  where
    go : (z m : Bool) → outcome r z m ≡ Err Refusal.NotZero → z ≡ true
    go true m e = refl
    go false true e = cc
    go false false e = cc

seven : (w : ℕ) (f : Option Row) → decoded_at w f ≡ Err Refusal.NoMeaning → Lacks w f
seven w None e = let z : ◌≡◌ {A = ℕ} 0 1 = cc in absurd (omega arith)
seven w (Some r) e = let q : (not_zero r w ≡ false) × (missing (named_of r) w ≡ true) = go (not_zero r w) (missing (named_of r) w) e in (r, refl, q.0, q.1)
  where
    go : (z m : Bool) → outcome r z m ≡ Err Refusal.NoMeaning → (z ≡ false) × (m ≡ true)
    go true m e = (cc, cc)
    go false true e = (refl, refl)
    go false false e = (cc, cc)

passes : (w : ℕ) (f : Option Row) (s : Row) → decoded_at w f ≡ Ok s → (f ≡ Some s) × (not_zero s w ≡ false) × (missing (named_of s) w ≡ false)
passes w None s e = let z : ◌≡◌ {A = ℕ} 0 1 = cc in absurd (omega arith)
passes w (Some r) s e =
    let q : (r ≡ s) × (not_zero r w ≡ false) × (missing (named_of r) w ≡ false) = go (not_zero r w) (missing (named_of r) w) e in
    (ap Some q.0, rw (← q.0) q.1, rw (← q.0) q.2)
  where
    go : (z m : Bool) → outcome r z m ≡ Ok s → (r ≡ s) × (z ≡ false) × (m ≡ false)
    go true m e = (cc, cc, cc)
    go false true e = (cc, cc, cc)
    go false false e = (cc, refl, refl)

-- 5 exactly when the function is not in the table
pub refused_5 : (w : ℕ) → (decoded w ≡ Err Refusal.NotListed) ↔ (found (field 64 0 8 w) ≡ None)
unfolding decoded
refused_5 w = (five w (found (field 64 0 8 w)), λ e. ap (decoded_at w) e)

-- 6 exactly when the function is in the table and a bit that is to be zero isn't
pub refused_6 : (w : ℕ) → (decoded w ≡ Err Refusal.NotZero) ↔ ((r : Row) × (found (field 64 0 8 w) ≡ Some r) × (not_zero r w ≡ true))
unfolding decoded
refused_6 w = (six w (found (field 64 0 8 w)), λ q. ap (decoded_at w) q.1 ∙ rw q.2)

-- 7 exactly when neither is so and a designator is 00 where no meaning is given
pub refused_7 : (w : ℕ) → (decoded w ≡ Err Refusal.NoMeaning) ↔ ((r : Row) × (found (field 64 0 8 w) ≡ Some r) × (not_zero r w ≡ false) × (missing (named_of r) w ≡ true))
unfolding decoded
refused_7 w = (seven w (found (field 64 0 8 w)), λ q. ap (decoded_at w) q.1 ∙ rw (q.2, q.3))

-- a word is listed, with its row, exactly when it passes 5 to 7
pub listed_passes : (w : ℕ) (r : Row) → (decoded w ≡ Ok r) ↔ ((found (field 64 0 8 w) ≡ Some r) × (not_zero r w ≡ false) × (missing (named_of r) w ≡ false))
unfolding decoded
listed_passes w r = (passes w (found (field 64 0 8 w)) r, λ q. ap (decoded_at w) q.0 ∙ rw (q.1, q.2))

-- a word by itself is refused 5, 6 or 7: decoded, read into parts or put together of them
abbrev pub of_word : Refusal → Bool
of_word Refusal.NotThere = false
of_word Refusal.NotListed = true
of_word Refusal.NotZero = true
of_word Refusal.NoMeaning = true
of_word Refusal.Misaligned = false
of_word Refusal.Short = false
of_word Refusal.Outside = false
of_word Refusal.Shared = false

pub refused_by_word : (w : ℕ) (why : Refusal) → decoded w ≡ Err why → of_word why ≡ true
unfolding decoded
refused_by_word w why e = go (found (field 64 0 8 w)) e
  where
    tested : (r : Row) (z m : Bool) → outcome r z m ≡ Err why → of_word why ≡ true
    tested r true m e = let i : Refusal.NotZero ≡ why = cc in ap of_word (sym i)
    tested r false true e = let i : Refusal.NoMeaning ≡ why = cc in ap of_word (sym i)
    tested r false false e = let z : ◌≡◌ {A = ℕ} 0 1 = cc in absurd (omega arith)

    go : (f : Option Row) → decoded_at w f ≡ Err why → of_word why ≡ true
    go None e = let i : Refusal.NotListed ≡ why = cc in ap of_word (sym i)
    go (Some r) e = tested r (not_zero r w) (missing (named_of r) w) e

-- what hands on a refusal of the decoding, and gives one thing where there is none
handed_on : {A : Type 0} (w : ℕ) (why : Refusal) (a : A) (at : Result Row Refusal → Result A Refusal) → ((r : Row) → at (Ok r) ≡ Ok a) → ((n : Refusal) → at (Err n) ≡ Err n)
    → at (decoded w) ≡ Err why → of_word why ≡ true
handed_on {A} w why a at good bad e = go (decoded w) refl e
  where
    go : (d : Result Row Refusal) → d ≡ decoded w → at d ≡ Err why → of_word why ≡ true
    go (Ok r) is e = let x = good r in let z : ◌≡◌ {A = ℕ} 0 1 = cc in absurd (omega arith)
    go (Err n) is e = let x = bad n in let i : n ≡ why = cc in refused_by_word w why (sym is ∙ ap Err i)

pub refused_by_reading : (w : ℕ) (why : Refusal) → reading w ≡ Err why → of_word why ≡ true
unfolding reading
refused_by_reading w why = handed_on w why (parts_of w) (reading_at w) (λ r. refl) (λ n. refl)

pub refused_by_joining : (p : Parts) (why : Refusal) → assembled p ≡ Err why → of_word why ≡ true
unfolding assembled
refused_by_joining p why = handed_on (joined p) why (joined p) (assembled_at (joined p)) (λ r. refl) (λ n. refl)
