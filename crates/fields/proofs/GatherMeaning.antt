-- Compress, merge and mask in cycles: each source is read in cycles of one shape, so the one closed form gives all five extents. What an extent means:
-- every bit read lies below it, and its last bit is read.
use mathlib.Core.Path.{◌≡◌, refl, sym, ap, ◌∙◌}
use mathlib.Core.Bool.{Bool, true, false, cond, ◌||◌}
use Prim.Native.Nat.{ℕ, ◌+◌, ◌-◌, ◌*◌, ◌/◌, ◌%◌, ◌^◌, ◌≤◌, ◌<◌}
use native.Mathlib.Nat.{mod-lt, mod-eq_of_lt, div-add-mod'}
use native.Mathlib.Omega.{arith}
use lib.Dec.{eqb, ltb}
use borrow.Author.Tests.{ltb-true, ltb-false, lt-ltb, eqb-false}
use Rattle.fields.specs.declared.gathers.Runs.{Runs}
use Rattle.fields.specs.declared.gathers.Cycles.{Cycles}
use Rattle.fields.specs.Gathers.{SourceBit, of_r, of_s, compress_takes, in_period, merge_takes, mask_takes, compress_items, merge_items, past_r, past_s, furthest, compress_r, merge_r, merge_s, mask_r, mask_s}
use Rattle.fields.specs.Private.Cycles.{past_at, past_of, Regular, Allowed}
use Rattle.fields.proofs.Furthest.{Hit, covers, reached, at_most, same_furthest}
use Rattle.fields.proofs.Cycled.{reads, too_early, too_late, low}

abbrev cycles : ℕ → ℕ → ℕ → ℕ → ℕ → Cycles
cycles p f l a o = record { period = p; from = f; long = l; stride = a; at = o }

-- ---- where R is taken at the places below r, and S at the others: a merge or a mask, with its own stride

module _ (p a o q m r x y : ℕ) where
  split_r : (m < r → x ≡ q * a + o + m) → past_r (cond (ltb m r) (of_r x) (of_s y)) ≡ past_at (cycles p 0 r a o) q m
  split_r h = go (ltb m r) refl
    where
      go : (b : Bool) → ltb m r ≡ b → past_r (cond b (of_r x) (of_s y)) ≡ past_at (cycles p 0 r a o) q m
      go true e =
          let l : m < r = ltb-true m r e in
          let s : x ≡ q * a + o + m = h l in
          rw (reads (cycles p 0 r a o) q m (omega arith) (omega arith)) (omega arith)
      go false e = let l : r ≤ m = ltb-false m r e in sym (too_late (cycles p 0 r a o) q m (omega arith))

  split_s : (s : ℕ) → m < r + s → (r ≤ m → y ≡ q * a + o + (m - r)) → past_s (cond (ltb m r) (of_r x) (of_s y)) ≡ past_at (cycles p r s a o) q m
  split_s s u h = go (ltb m r) refl
    where
      go : (b : Bool) → ltb m r ≡ b → past_s (cond b (of_r x) (of_s y)) ≡ past_at (cycles p r s a o) q m
      go true e = sym (too_early (cycles p r s a o) q m (ltb-true m r e))
      go false e =
          let l : r ≤ m = ltb-false m r e in
          let k : y ≡ q * a + o + (m - r) = h l in
          rw (reads (cycles p r s a o) q m l u) (omega arith)

-- ---- a source that is read in cycles: its items, and how far they read

pub record Shape (T : Cycles) (items extent : ℕ) : Type 0 where
  pub may : Allowed T items
  pub same : furthest (past_of T) items ≡ extent

module _ {T : Cycles} {items extent : ℕ} (shape : Shape T items extent) where
  -- the code asks for its reach, and is given the extent
  pub given : (k v : ℕ) → k ≡ items → v ≡ furthest (past_of T) k → v ≡ extent
  given k v e g = g ∙ ap (furthest (past_of T)) e ∙ shape.same

  shape_low : extent < 2 ^ 33
  shape_low = rw (← shape.same) (low T items shape.may)

-- an item before n that takes x
pub record Takes (take : ℕ → SourceBit) (n : ℕ) (x : SourceBit) : Type 0 where
  pub item : ℕ
  pub below : item < n
  pub takes : take item ≡ x

-- ---- items

pub record Lengths (t : Runs) : Type 0 where
  pub r_fits : t.r < 65536
  pub s_fits : t.s < 65536
  pub n_fits : t.n < 65536

module _ (t : Runs) where
  pub compress_some : 0 < compress_items t → 0 < t.r
  compress_some h = go (eqb t.r 0) refl h
    where
      go : (b : Bool) → eqb t.r 0 ≡ b → 0 < cond b 0 t.n → 0 < t.r
      go true e k = absurd (omega arith)
      go false e k = let z : t.r ≡ 0 → ⊥ = eqb-false _ _ e in omega arith

  pub merge_some : 0 < merge_items t → (0 < t.r) × (0 < t.s)
  merge_some h = go (eqb t.r 0) (eqb t.s 0) refl refl h
    where
      go : (a b : Bool) → eqb t.r 0 ≡ a → eqb t.s 0 ≡ b → 0 < cond (a || b) 0 t.n → (0 < t.r) × (0 < t.s)
      go true b e f k = absurd (omega arith)
      go false true e f k = absurd (omega arith)
      go false false e f k = let y : t.r ≡ 0 → ⊥ = eqb-false _ _ e in let z : t.s ≡ 0 → ⊥ = eqb-false _ _ f in omega arith

  pub compress_few : compress_items t ≤ t.n
  compress_few = go (eqb t.r 0)
    where
      go : (b : Bool) → cond b 0 t.n ≤ t.n
      go true = omega arith
      go false = omega arith

  pub merge_few : merge_items t ≤ t.n
  merge_few = go (eqb t.r 0 || eqb t.s 0)
    where
      go : (b : Bool) → cond b 0 t.n ≤ t.n
      go true = omega arith
      go false = omega arith

  -- ---- the five shapes

  abbrev pub compress_cycles : Cycles
  compress_cycles = cycles t.r 0 t.r (t.r + t.s) 0

  abbrev pub merge_r_cycles : Cycles
  merge_r_cycles = cycles (t.r + t.s) 0 t.r t.r 0

  abbrev pub merge_s_cycles : Cycles
  merge_s_cycles = cycles (t.r + t.s) t.r t.s t.s 0

  abbrev pub mask_r_cycles : Cycles
  mask_r_cycles = cycles (t.r + t.s) 0 t.r (t.r + t.s) 0

  abbrev pub mask_s_cycles : Cycles
  mask_s_cycles = cycles (t.r + t.s) t.r t.s (t.r + t.s) t.r

  compress_same : furthest (past_of compress_cycles) (compress_items t) ≡ compress_r t
  compress_same =
      same_furthest (past_of compress_cycles) (λ j. past_r (compress_takes t j)) (compress_items t)
      (λ j h.
      let k : 0 < t.r = compress_some (omega arith) in
      let l : j % t.r < t.r = mod-lt j k in
      reads compress_cycles (j / t.r) (j % t.r) (omega arith) (omega arith) ∙ omega arith)

  module _ (j : ℕ) (h : j < merge_items t) where
    in_period_lem : j % (t.r + t.s) < t.r + t.s
    in_period_lem = let k : (0 < t.r) × (0 < t.s) = merge_some (omega arith) in mod-lt j (omega arith)

    whole : j ≡ j / (t.r + t.s) * (t.r + t.s) + in_period t j
    whole = sym (div-add-mod' j (t.r + t.s))

    merge_r_item : past_of merge_r_cycles j ≡ past_r (merge_takes t j)
    merge_r_item = sym (split_r (t.r + t.s) t.r 0 (j / (t.r + t.s)) (in_period t j) t.r _ _ (omega arith))

    merge_s_item : past_of merge_s_cycles j ≡ past_s (merge_takes t j)
    merge_s_item = sym (split_s (t.r + t.s) t.s 0 (j / (t.r + t.s)) (in_period t j) t.r _ _ t.s in_period_lem (omega arith))

    mask_r_item : past_of mask_r_cycles j ≡ past_r (mask_takes t j)
    mask_r_item = let w : j ≡ j / (t.r + t.s) * (t.r + t.s) + in_period t j = whole in sym (split_r (t.r + t.s) (t.r + t.s) 0 (j / (t.r + t.s)) (in_period t j) t.r j j (omega arith))

    mask_s_item : past_of mask_s_cycles j ≡ past_s (mask_takes t j)
    mask_s_item = let w : j ≡ j / (t.r + t.s) * (t.r + t.s) + in_period t j = whole in sym (split_s (t.r + t.s) (t.r + t.s) t.r (j / (t.r + t.s)) (in_period t j) t.r j j t.s in_period_lem (omega arith))

  merge_r_same : furthest (past_of merge_r_cycles) (merge_items t) ≡ merge_r t
  merge_r_same = same_furthest (past_of merge_r_cycles) (λ j. past_r (merge_takes t j)) (merge_items t) merge_r_item

  merge_s_same : furthest (past_of merge_s_cycles) (merge_items t) ≡ merge_s t
  merge_s_same = same_furthest (past_of merge_s_cycles) (λ j. past_s (merge_takes t j)) (merge_items t) merge_s_item

  mask_r_same : furthest (past_of mask_r_cycles) (merge_items t) ≡ mask_r t
  mask_r_same = same_furthest (past_of mask_r_cycles) (λ j. past_r (mask_takes t j)) (merge_items t) mask_r_item

  mask_s_same : furthest (past_of mask_s_cycles) (merge_items t) ≡ mask_s t
  mask_s_same = same_furthest (past_of mask_s_cycles) (λ j. past_s (mask_takes t j)) (merge_items t) mask_s_item

  module _ (fits : Lengths t) where
    pub compress_shape : Shape compress_cycles (compress_items t) (compress_r t)
    compress_shape =
        let f = fits in
        let few : compress_items t ≤ t.n = compress_few in
        record {
          may = record { few = omega arith; regular = λ h. let k : 0 < t.r = compress_some h in omega arith };
          same = compress_same;
        }

    -- what the other four share
    both_some : (T : Cycles) (extent : ℕ) → ((0 < t.r) × (0 < t.s) → Regular T) → furthest (past_of T) (merge_items t) ≡ extent → Shape T (merge_items t) extent
    both_some T extent regular same =
        let f = fits in
        let few : merge_items t ≤ t.n = merge_few in
        record { may = record { few = omega arith; regular = λ h. regular (merge_some h) }; same = same }

    pub merge_r_shape : Shape merge_r_cycles (merge_items t) (merge_r t)
    merge_r_shape = let f = fits in both_some merge_r_cycles _ (omega arith) merge_r_same

    pub merge_s_shape : Shape merge_s_cycles (merge_items t) (merge_s t)
    merge_s_shape = let f = fits in both_some merge_s_cycles _ (omega arith) merge_s_same

    pub mask_r_shape : Shape mask_r_cycles (merge_items t) (mask_r t)
    mask_r_shape = let f = fits in both_some mask_r_cycles _ (omega arith) mask_r_same

    pub mask_s_shape : Shape mask_s_cycles (merge_items t) (mask_s t)
    mask_s_shape = let f = fits in both_some mask_s_cycles _ (omega arith) mask_s_same

    -- no extent reaches 2 ^ 33
    pub extents_low : (compress_r t < 2 ^ 33) × ((merge_r t < 2 ^ 33) × ((merge_s t < 2 ^ 33) × ((mask_r t < 2 ^ 33) × (mask_s t < 2 ^ 33))))
    extents_low = (shape_low compress_shape, (shape_low merge_r_shape, (shape_low merge_s_shape, (shape_low mask_r_shape, shape_low mask_s_shape))))

-- ---- what an extent means, for any rule that says which bit each item takes

-- R: every bit taken lies below its extent, and the extent's last bit is taken
module _ (take : ℕ → SourceBit) (n : ℕ) where
  pub r_covered : (j i : ℕ) → j < n → take j ≡ of_r i → i < furthest (λ j. past_r (take j)) n
  r_covered j i h e =
      let c : past_r (take j) ≤ furthest (λ j. past_r (take j)) n = covers (λ j. past_r (take j)) n j h in
      let p : past_r (take j) ≡ i + 1 = ap past_r e in
      omega arith

  pub s_covered : (j i : ℕ) → j < n → take j ≡ of_s i → i < furthest (λ j. past_s (take j)) n
  s_covered j i h e =
      let c : past_s (take j) ≤ furthest (λ j. past_s (take j)) n = covers (λ j. past_s (take j)) n j h in
      let p : past_s (take j) ≡ i + 1 = ap past_s e in
      omega arith

  pub r_reached : (i : ℕ) → furthest (λ j. past_r (take j)) n ≡ i + 1 → Takes take n (of_r i)
  r_reached i e =
      let k : Hit (λ j. past_r (take j)) n (furthest (λ j. past_r (take j)) n) = reached (λ j. past_r (take j)) n (omega arith) in
      record { item = k.item; below = k.below; takes = go (take k.item) (k.gives ∙ e) }
    where
      go : (x : SourceBit) → past_r x ≡ i + 1 → x ≡ of_r i
      go (of_r m) p = ap of_r (omega arith)
      go (of_s m) p = absurd (omega arith)

  pub s_reached : (i : ℕ) → furthest (λ j. past_s (take j)) n ≡ i + 1 → Takes take n (of_s i)
  s_reached i e =
      let k : Hit (λ j. past_s (take j)) n (furthest (λ j. past_s (take j)) n) = reached (λ j. past_s (take j)) n (omega arith) in
      record { item = k.item; below = k.below; takes = go (take k.item) (k.gives ∙ e) }
    where
      go : (x : SourceBit) → past_s x ≡ i + 1 → x ≡ of_s i
      go (of_r m) p = absurd (omega arith)
      go (of_s m) p = ap of_s (omega arith)

-- nothing is read from S where n is at most r
module _ (t : Runs) (h : t.n ≤ t.r) where
  unread : (x y : ℕ → ℕ) (j : ℕ) → j < merge_items t → past_s (cond (ltb (in_period t j) t.r) (of_r (x j)) (of_s (y j))) ≤ 0
  unread x y j l =
      let few : merge_items t ≤ t.n = merge_few t in
      let s : in_period t j ≡ j = mod-eq_of_lt (omega arith) in
      rw (lt-ltb (in_period t j) t.r (omega arith)) (omega arith)

  pub merge_s_unread : merge_s t ≡ 0
  merge_s_unread = let l : merge_s t ≤ 0 = at_most (λ j. past_s (merge_takes t j)) (merge_items t) 0 (unread _ _) in omega arith

  pub mask_s_unread : mask_s t ≡ 0
  mask_s_unread = let l : mask_s t ≤ 0 = at_most (λ j. past_s (mask_takes t j)) (merge_items t) 0 (unread _ _) in omega arith
