-- The closed form of an extent. Item j stands in cycle j / period at place j mod period; of two items the earlier stands in an earlier cycle, or in
-- the same cycle at an earlier place. So the last bit read is the last of the cycle that the items end in, or of the cycle before it.
use mathlib.Core.Path.{◌≡◌, refl, ap, ◌∙◌}
use mathlib.Core.Bool.{Bool, true, false, cond, ◌&&◌}
use Prim.Native.Nat.{ℕ, suc, ◌+◌, ◌-◌, ◌*◌, ◌/◌, ◌%◌, ◌^◌, ◌≤◌, ◌<◌, min}
use native.Mathlib.Nat.{mod-lt, suc-mul, mul-le-mul_right, div-add-mod', mul-le-mul, div-le_self}
use native.Mathlib.Omega.{arith}
use lib.Arith.{digits_div, digits_mod}
use lib.Dec.{ltb, leb}
use borrow.Author.Tests.{ltb-true, ltb-false, le-ltb, lt-ltb, leb-true, le-leb, lt-leb}
use Rattle.fields.specs.declared.gathers.Cycles.{Cycles}
use Rattle.fields.specs.Gathers.{furthest}
use Rattle.fields.specs.Private.Cycles.{past_at, past_of, Regular, Allowed}
use Rattle.fields.proofs.Furthest.{Hit, largest_is, at_most}

-- ---- what an item gives, by its place

module _ (t : Cycles) (q i : ℕ) where
  pub reads : t.from ≤ i → i < t.from + t.long → past_at t q i ≡ q * t.stride + t.at + (i - t.from) + 1
  reads l u = rw (le-leb t.from i l, lt-ltb i (t.from + t.long) u)

  pub too_early : i < t.from → past_at t q i ≡ 0
  too_early l = rw (lt-leb t.from i l)

  pub too_late : t.from + t.long ≤ i → past_at t q i ≡ 0
  too_late u = go (leb t.from i)
    where
      go : (b : Bool) → cond (b && ltb i (t.from + t.long)) (q * t.stride + t.at + (i - t.from) + 1) 0 ≡ 0
      go true = rw (le-ltb i (t.from + t.long) u)
      go false = refl

  -- a bound on what is read is one on what is given
  bounded : (v : ℕ) → (t.from ≤ i → i < t.from + t.long → q * t.stride + t.at + (i - t.from) + 1 ≤ v) → past_at t q i ≤ v
  bounded v h = go (leb t.from i) (ltb i (t.from + t.long)) refl refl
    where
      go : (a b : Bool) → leb t.from i ≡ a → ltb i (t.from + t.long) ≡ b → cond (a && b) (q * t.stride + t.at + (i - t.from) + 1) 0 ≤ v
      go true true p r = h (leb-true _ _ p) (ltb-true _ _ r)
      go true false p r = omega arith
      go false b p r = omega arith

-- ---- cycles and places

step : (a b k : ℕ) → a < b → a * k + k ≤ b * k
step a b k h = let e : suc a * k ≤ b * k = mul-le-mul_right k h in rw (suc-mul a k) at e

data Before (q d i m : ℕ) : Type 0 where
  cycle : q < d → Before q d i m
  place : q ≡ d → i < m → Before q d i m

before : (p q d i m : ℕ) → i < p → m < p → q * p + i < d * p + m → Before q d i m
before p q d i m hi hm h = go (ltb q d) (ltb d q) refl refl
  where
    go : (a b : Bool) → ltb q d ≡ a → ltb d q ≡ b → Before q d i m
    go true b e f = cycle (ltb-true _ _ e)
    go false true e f = let s : d * p + p ≤ q * p = step d q p (ltb-true _ _ f) in absurd (omega arith)
    go false false e f =
        let l : d ≤ q = ltb-false _ _ e in
        let g : q ≤ d = ltb-false _ _ f in
        let s : q ≡ d = omega arith in
        let k : q * p ≡ d * p = ap (λ (x : ℕ). x * p) s in
        place s (omega arith)

module _ (t : Cycles) (n : ℕ) (may : Allowed t n) (some : n ≡ 0 → ⊥) where
  regular : Regular t
  regular = may.regular (omega arith)

  p_pos : 0 < t.period
  p_pos = let r : Regular t = regular in omega arith

  -- every earlier item: an earlier cycle, or an earlier place
  each : (v : ℕ) → ((q i : ℕ) → i < t.period → Before q (n / t.period) i (n % t.period) → past_at t q i ≤ v) → (j : ℕ) → j < n → past_of t j ≤ v
  each v h j l =
      let a : j / t.period * t.period + j % t.period ≡ j = div-add-mod' j t.period in
      let b : n / t.period * t.period + n % t.period ≡ n = div-add-mod' n t.period in
      let hj : j % t.period < t.period = mod-lt j p_pos in
      let hn : n % t.period < t.period = mod-lt n p_pos in
      h (j / t.period) (j % t.period) hj (before t.period _ _ _ _ hj hn (omega arith))

  -- the item of a cycle and a place
  item_at_lem : (q i v : ℕ) → i < t.period → q * t.period + i < n → past_at t q i ≡ v → Hit (past_of t) n v
  item_at_lem q i v h l e = record { item = q * t.period + i; below = l; gives = rw (digits_div q h, digits_mod q h) e }

  -- the items end past the first place that reads: in their last cycle
  pub ends_within : t.from < n % t.period → furthest (past_of t) n ≡ n / t.period * t.stride + t.at + min (n % t.period - t.from) t.long
  ends_within h = largest_is (past_of t) n _ (each _ covered) hit
    where
      covered : (q i : ℕ) → i < t.period → Before q (n / t.period) i (n % t.period) → past_at t q i ≤ n / t.period * t.stride + t.at + min (n % t.period - t.from) t.long
      covered q i hi (cycle l) =
          let r : Regular t = regular in
          let s : q * t.stride + t.stride ≤ n / t.period * t.stride = step q (n / t.period) t.stride l in
          bounded t q i _ (omega arith)
      covered q i hi (place e l) =
          let s : q * t.stride ≡ n / t.period * t.stride = ap (λ (x : ℕ). x * t.stride) e in
          bounded t q i _ (omega arith)

      hit : 0 < n / t.period * t.stride + t.at + min (n % t.period - t.from) t.long → Hit (past_of t) n (n / t.period * t.stride + t.at + min (n % t.period - t.from) t.long)
      hit u =
          let r : Regular t = regular in
          let b : n / t.period * t.period + n % t.period ≡ n = div-add-mod' n t.period in
          item_at_lem (n / t.period) (t.from + min (n % t.period - t.from) t.long - 1) _ (omega arith) (omega arith)
          (reads t _ _ (omega arith) (omega arith) ∙ omega arith)

  -- they end before it, in the first cycle
  pub ends_before_any : n % t.period ≤ t.from → n / t.period ≡ 0 → furthest (past_of t) n ≡ 0
  ends_before_any h z = largest_is (past_of t) n 0 (each 0 covered) (λ u. absurd (omega arith))
    where
      covered : (q i : ℕ) → i < t.period → Before q (n / t.period) i (n % t.period) → past_at t q i ≤ 0
      covered q i hi (cycle l) = absurd (omega arith)
      covered q i hi (place e l) = bounded t q i 0 (omega arith)

  -- they end before it, in a later cycle: the cycle before is the last that is read
  pub ends_between : n % t.period ≤ t.from → 0 < n / t.period → furthest (past_of t) n ≡ (n / t.period - 1) * t.stride + t.at + t.long
  ends_between h u = largest_is (past_of t) n _ (each _ covered) hit
    where
      covered : (q i : ℕ) → i < t.period → Before q (n / t.period) i (n % t.period) → past_at t q i ≤ (n / t.period - 1) * t.stride + t.at + t.long
      covered q i hi (cycle l) =
          let le : q ≤ n / t.period - 1 = omega arith in
          let s : q * t.stride ≤ (n / t.period - 1) * t.stride = mul-le-mul_right t.stride le in
          bounded t q i _ (omega arith)
      covered q i hi (place e l) = bounded t q i _ (omega arith)

      hit : 0 < (n / t.period - 1) * t.stride + t.at + t.long → Hit (past_of t) n ((n / t.period - 1) * t.stride + t.at + t.long)
      hit v =
          let r : Regular t = regular in
          let b : n / t.period * t.period + n % t.period ≡ n = div-add-mod' n t.period in
          let s : (n / t.period - 1) * t.period + t.period ≤ n / t.period * t.period = step (n / t.period - 1) (n / t.period) t.period (omega arith) in
          item_at_lem (n / t.period - 1) (t.from + t.long - 1) _ (omega arith) (omega arith)
          (reads t _ _ (omega arith) (omega arith) ∙ omega arith)

-- no cycle of 65,535 items ends past 2 ^ 33
fits : (t : Cycles) → Regular t → (d : ℕ) → d < 65536 → d * t.stride + t.at + t.long < 2 ^ 33
fits t regular d h =
    let r = regular in
    let s : d * t.stride ≤ 65535 * 131070 = mul-le-mul {n₁ = d} {m₁ = t.stride} {n₂ = 65535} {m₂ = 131070} (omega arith) (omega arith) in
    omega arith

module _ (t : Cycles) (n : ℕ) (may : Allowed t n) where
  -- so the code's sums fit
  pub room : (n ≡ 0 → ⊥) → (n / t.period * t.stride + t.at + t.long < 2 ^ 33) × ((n / t.period - 1) * t.stride + t.at + t.long < 2 ^ 33)
  room some =
      let f : n < 65536 = may.few in
      let d : n / t.period ≤ n = div-le_self n t.period in
      let r : Regular t = may.regular (omega arith) in
      (fits t r (n / t.period) (omega arith), fits t r (n / t.period - 1) (omega arith))

  -- and no extent reaches 2 ^ 33
  pub low : furthest (past_of t) n < 2 ^ 33
  low = let l : furthest (past_of t) n ≤ 2 ^ 33 - 1 = at_most (past_of t) n (2 ^ 33 - 1) each_low in omega arith
    where
      each_low : (j : ℕ) → j < n → past_of t j ≤ 2 ^ 33 - 1
      each_low j l =
          let f : n < 65536 = may.few in
          let d : j / t.period ≤ j = div-le_self j t.period in
          let r : j / t.period * t.stride + t.at + t.long < 2 ^ 33 = fits t (may.regular (omega arith)) (j / t.period) (omega arith) in
          bounded t (j / t.period) (j % t.period) _ (omega arith)
