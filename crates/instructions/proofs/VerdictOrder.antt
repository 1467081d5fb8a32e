-- The verdict is n exactly when the check of number n refuses and none before it does; 0 exactly when none refuses. Proved for every list of checks, so a
-- check that is put in changes nothing here.
use mathlib.Core.Path.{◌≡◌, refl}
use mathlib.Core.Bool.{Bool, true, false, cond, not}
use mathlib.Core.Logic.{◌↔◌}
use mathlib.Core.List.{List, [], ◌∷◌, ◌++◌}
use Prim.Native.Nat.{ℕ, ◌<◌}
use native.Mathlib.Omega.{arith}
use lib.Dec.{eqb, ltb, T, ltb→lt}
use borrow.Author.Tests.{eq-eqb}
use Rattle.instructions.specs.declared.operands.Operands.{Operands}
use Rattle.instructions.specs.Verdict.{Case, NumberedCheck, case_of, checks, first_number, verdict_of}
use Rattle.instructions.proofs.Conjunctions.{and_first, and_rest}
use Rattle.instructions.proofs.TablePlaces.{every}

-- a check of number n refuses the case, and none before it does
pub data Earliest (n : ℕ) (c : Case) : List NumberedCheck → Type 0 where
  here : {k : NumberedCheck} {ks : List NumberedCheck} → k.number ≡ n → k.refuses c ≡ true → Earliest n c (k ∷ ks)
  later : {k : NumberedCheck} {ks : List NumberedCheck} → k.refuses c ≡ false → Earliest n c ks → Earliest n c (k ∷ ks)

-- none refuses it
pub data Passes (c : Case) : List NumberedCheck → Type 0 where
  end : Passes c []
  next : {k : NumberedCheck} {ks : List NumberedCheck} → k.refuses c ≡ false → Passes c ks → Passes c (k ∷ ks)

-- no number is 0
abbrev Numbered : List NumberedCheck → Type 0
Numbered ks = T (every (λ k. ltb 0 k.number) ks)

-- ---- for every list

earliest : (ks : List NumberedCheck) (c : Case) (n : ℕ) → 0 < n → first_number ks c ≡ n → Earliest n c ks
earliest [] c n h e = absurd (omega arith)
earliest (k ∷ ks) c n h e = go (λ q. earliest ks c n h q) (k.refuses c) refl e
  where
    go : (first_number ks c ≡ n → Earliest n c ks) → (b : Bool) → k.refuses c ≡ b → cond b k.number (first_number ks c) ≡ n → Earliest n c (k ∷ ks)
    go rest true t q = here q t
    go rest false t q = later t (rest q)

answers : {n : ℕ} {c : Case} {ks : List NumberedCheck} → Earliest n c ks → first_number ks c ≡ n
answers (here e t) = rw t e
answers (later t q) = rw t (answers q)

passes : (ks : List NumberedCheck) (c : Case) → Numbered ks → first_number ks c ≡ 0 → Passes c ks
unfolding every
passes [] c h e = end
passes (k ∷ ks) c h e = go (λ q. passes ks c (and_rest (ltb 0 k.number) (every (λ j. ltb 0 j.number) ks) h) q) (k.refuses c) refl e
  where
    go : (first_number ks c ≡ 0 → Passes c ks) → (b : Bool) → k.refuses c ≡ b → cond b k.number (first_number ks c) ≡ 0 → Passes c (k ∷ ks)
    go rest true t q = let p = ltb→lt 0 k.number (and_first (ltb 0 k.number) (every (λ j. ltb 0 j.number) ks) h) in absurd (omega arith)
    go rest false t q = next t (rest q)

passed : {c : Case} {ks : List NumberedCheck} → Passes c ks → first_number ks c ≡ 0
passed end = refl
passed (next t q) = rw t (passed q)

pub first_is : (ks : List NumberedCheck) (c : Case) (n : ℕ) → 0 < n → (first_number ks c ≡ n) ↔ Earliest n c ks
first_is ks c n h = ((λ e. earliest ks c n h e), (λ q. answers q))

-- a number that one check alone has says that it is this check that refuses
abbrev pub other : ℕ → NumberedCheck → Bool
other n k = not (eqb k.number n)

not_among : (n : ℕ) → 0 < n → (ks : List NumberedCheck) (c : Case) → T (every (other n) ks) → first_number ks c ≡ n → ⊥
unfolding every
not_among n h [] c t e = omega arith
not_among n h (k ∷ ks) c t e = go (λ q. not_among n h ks c (and_rest (other n k) (every (other n) ks) t) q) (k.refuses c) e
  where
    go : (first_number ks c ≡ n → ⊥) → (b : Bool) → cond b k.number (first_number ks c) ≡ n → ⊥
    go rest true q = rw (eq-eqb k.number n q) at (and_first (other n k) (every (other n) ks) t)
    go rest false q = rest q

pub only_one : (n : ℕ) → 0 < n → (before : List NumberedCheck) (k : NumberedCheck) (after : List NumberedCheck) (c : Case)
    → T (every (other n) before) → T (every (other n) after) → first_number (before ++ (k ∷ after)) c ≡ n → k.refuses c ≡ true
unfolding every
only_one n h [] k after c b a e = go (k.refuses c) refl e
  where
    go : (t : Bool) → k.refuses c ≡ t → cond t k.number (first_number after c) ≡ n → k.refuses c ≡ true
    go true q r = q
    go false q r = absurd (not_among n h after c a r)
only_one n h (j ∷ before) k after c b a e = go (λ r. only_one n h before k after c (and_rest (other n j) (every (other n) before) b) a r) (j.refuses c) e
  where
    go : (first_number (before ++ (k ∷ after)) c ≡ n → k.refuses c ≡ true) → (t : Bool) → cond t j.number (first_number (before ++ (k ∷ after)) c) ≡ n → k.refuses c ≡ true
    go rest true r = absurd (rw (eq-eqb j.number n r) at (and_first (other n j) (every (other n) before) b))
    go rest false r = rest r

-- ---- for the list of checks

numbered : Numbered checks
unfolding every
numbered = tt

module _ (p w : ℕ) (o : Operands) (l : ℕ) where
  pub verdict_is : (n : ℕ) → 0 < n → (verdict_of p w o l ≡ n) ↔ Earliest n (case_of p w o l) checks
  unfolding verdict_of
  verdict_is n h = first_is checks (case_of p w o l) n h

  pub verdict_none : (verdict_of p w o l ≡ 0) ↔ Passes (case_of p w o l) checks
  unfolding verdict_of
  verdict_none = ((λ e. passes checks (case_of p w o l) numbered e), (λ q. passed q))
