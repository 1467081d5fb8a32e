-- Laws of "the largest of what the first n items give", for any rule that says what an item gives.
use mathlib.Core.Path.{◌≡◌, refl, ◌∙◌}
use mathlib.Core.Bool.{Bool, true, false}
use Prim.Native.Nat.{ℕ, zero, suc, ◌≤◌, ◌<◌, max}
use native.Mathlib.Omega.{arith}
use lib.Dec.{ltb}
use borrow.Author.Tests.{ltb-true, ltb-false}
use Rattle.fields.specs.Gathers.{furthest}

-- an item before n that gives v
pub record Hit (past : ℕ → ℕ) (n v : ℕ) : Type 0 where
  pub item : ℕ
  pub below : item < n
  pub gives : past item ≡ v

later : {past : ℕ → ℕ} {n v w : ℕ} → v ≡ w → Hit past n v → Hit past (suc n) w
later e k = let b = k.below in record { item = k.item; below = omega arith; gives = k.gives ∙ e }

module _ (past : ℕ → ℕ) where
  pub no_items : (n : ℕ) → n ≡ 0 → 0 ≡ furthest past n
  unfolding furthest
  no_items zero e = refl
  no_items (suc n) e = absurd (omega arith)

  -- no item gives more
  pub covers : (n j : ℕ) → j < n → past j ≤ furthest past n
  unfolding furthest
  covers zero j h = absurd (omega arith)
  covers (suc n) j h = go (covers n j) (ltb j n) refl
    where
      go : (j < n → past j ≤ furthest past n) → (b : Bool) → ltb j n ≡ b → past j ≤ max (furthest past n) (past n)
      go ih true e = let l : past j ≤ furthest past n = ih (ltb-true j n e) in omega arith
      go ih false e = let l : n ≤ j = ltb-false j n e in let s : j ≡ n = omega arith in rw s (omega arith)

  -- .. and one gives as much
  pub reached : (n : ℕ) → 0 < furthest past n → Hit past n (furthest past n)
  unfolding furthest
  reached zero h = absurd (omega arith)
  reached (suc n) h = go (reached n) (ltb (past n) (furthest past n)) refl
    where
      go : (0 < furthest past n → Hit past n (furthest past n)) → (b : Bool) → ltb (past n) (furthest past n) ≡ b → Hit past (suc n) (max (furthest past n) (past n))
      go ih true e = let l : past n < furthest past n = ltb-true _ _ e in later (omega arith) (ih (omega arith))
      go ih false e = let l : furthest past n ≤ past n = ltb-false _ _ e in record { item = n; below = omega arith; gives = omega arith }

  -- where no item gives more than v, it is at most v
  pub at_most : (n v : ℕ) → ((j : ℕ) → j < n → past j ≤ v) → furthest past n ≤ v
  unfolding furthest
  at_most zero v h = omega arith
  at_most (suc n) v h =
      let p : furthest past n ≤ v = at_most n v (λ j l. h j (omega arith)) in
      let q : past n ≤ v = h n (omega arith) in
      omega arith

  -- so a number is the largest if no item gives more and, unless it is 0, one gives as much
  pub largest_is : (n v : ℕ) → ((j : ℕ) → j < n → past j ≤ v) → (0 < v → Hit past n v) → furthest past n ≡ v
  largest_is n v h k = go (ltb 0 v) refl
    where
      le : furthest past n ≤ v
      le = at_most n v h

      go : (b : Bool) → ltb 0 v ≡ b → furthest past n ≡ v
      go true e =
          let i : Hit past n v = k (ltb-true 0 v e) in
          let c : past i.item ≤ furthest past n = covers n i.item i.below in
          let g : past i.item ≡ v = i.gives in
          let l : furthest past n ≤ v = le in
          omega arith
      go false e = let l : furthest past n ≤ v = le in let z : v ≤ 0 = ltb-false 0 v e in omega arith

-- rules that agree on the first n items
pub same_furthest : (f g : ℕ → ℕ) (n : ℕ) → ((j : ℕ) → j < n → f j ≡ g j) → furthest f n ≡ furthest g n
unfolding furthest
same_furthest f g zero h = refl
same_furthest f g (suc n) h =
    let p : furthest f n ≡ furthest g n = same_furthest f g n (λ j l. h j (omega arith)) in
    let q : f n ≡ g n = h n (omega arith) in
    omega arith
