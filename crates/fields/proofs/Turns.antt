-- Items done in turn on the changing memory are items done at once from the memory at the start, if no item looks at a result item before it. By
-- induction on the items: those before item n change nothing that it looks at, and side by side two stores are one. Then what an item may look at: a
-- source that shares no bit with the result, and the item itself. f i x is the value of item i made of the memory x; w is the width of an item and c
-- the first bit of the result.
use mathlib.Core.Path.{◌≡◌, refl, sym, ap, ap₂, ◌∙◌}
use mathlib.Core.Logic.{inl, inr, ⊎_elim}
use Prim.Native.Nat.{ℕ, zero, suc, ◌+◌, ◌*◌, ◌^◌, ◌≤◌, ◌<◌}
use native.Mathlib.Nat.{add-zero, add-suc, add-mul, suc-mul, zero-mul, mul-le-mul_right, eq-or-lt_of_le, le_of_suc-le-suc, le_of_lt}
use native.Mathlib.Omega.{arith}
use lib.Arith.{digits_lt}
use lib.Pow.{pow-add}
use Rattle.fields.specs.Field.{field, store, Apart, side_by_side}
use Rattle.fields.proofs.Places.{field_store, field_other, store_join, store_none}

-- item n is what f makes of the memory as the items before it left it
abbrev pub in_turn : ℕ → ℕ → ℕ → (ℕ → ℕ → ℕ) → ℕ → ℕ → ℕ
in_turn L c w f zero x = x
in_turn L c w f (suc n) x = store L (c + n * w) w (f n (in_turn L c w f n x)) (in_turn L c w f n x)

-- x and y hold the same in every field that is apart from the k bits at p
abbrev pub Same : ℕ → ℕ → ℕ → ℕ → ℕ → Type 0
Same L p k x y = (a n : ℕ) → a + n ≤ L → Apart p k a n → field L a n x ≡ field L a n y

-- item i looks at no item of the result before it
abbrev pub Looks : ℕ → ℕ → ℕ → ℕ → (ℕ → ℕ → ℕ) → Type 0
Looks L c w count f = (i x y : ℕ) → i < count → Same L c (i * w) x y → f i x ≡ f i y

-- a pause changes nothing: j items more, worked as a vector of their own k items further on, are items k to k + j
pub resume : (L c w : ℕ) (f : ℕ → ℕ → ℕ) (k j x : ℕ) → in_turn L (c + k * w) w (λ i y. f (k + i) y) j (in_turn L c w f k x) ≡ in_turn L c w f (k + j) x
resume L c w f k zero x = rw add-zero
resume L c w f k (suc j) x =
    let e : (c + k * w) + j * w ≡ c + (k + j) * w = omega (arith, add-mul k j w) in
    ap₂ (λ (a y : ℕ). store L a w (f (k + j) y) y) e (resume L c w f k j x) ∙ ap (λ (n : ℕ). in_turn L c w f n x) (sym (add-suc k j))

module _ (L c w count : ℕ) (f : ℕ → ℕ → ℕ) (fits : c + count * w ≤ L) (small : (i x : ℕ) → f i x < 2 ^ w) (looks : Looks L c w count f) (x : ℕ) where
  after : (n i : ℕ) → n < i → n * w + w ≤ i * w
  after n i h = omega (arith, suc-mul n w, mul-le-mul_right w h)

  pub items_lt : (n : ℕ) → side_by_side w f n x < 2 ^ (n * w)
  items_lt zero = rw zero-mul (omega arith)
  items_lt (suc n) = rw (suc-mul, pow-add) (digits_lt (items_lt n) (small n x))

  -- after n items no field apart from them has changed
  pub untouched : (n : ℕ) → n ≤ count → Same L c (n * w) (in_turn L c w f n x) x
  untouched zero h a m la d = refl
  untouched (suc n) h a m la d =
      field_other L (c + n * w) w (f n (in_turn L c w f n x)) a m (in_turn L c w f n x) (small n (in_turn L c w f n x)) (omega (arith, after n count h)) la
      (⊎_elim (λ l. inl (omega (arith, suc-mul n w))) (λ r. inr (omega (arith, suc-mul n w))) d)
      ∙ untouched n (omega arith) a m la (⊎_elim (λ l. inl (omega (arith, suc-mul n w))) (λ r. inr r) d)

  -- the value that item n stores is the one that the memory at the start gives
  pub as_at_start : (n : ℕ) → n < count → f n (in_turn L c w f n x) ≡ f n x
  as_at_start n h = looks n (in_turn L c w f n x) x h (untouched n (omega arith))

  -- the items one after another are all of them at once, made of the memory at the start
  pub at_once : (n : ℕ) → n ≤ count → in_turn L c w f n x ≡ store L c (n * w) (side_by_side w f n x) x
  at_once zero h = rw zero-mul (sym (store_none L c x))
  at_once (suc n) h =
      ap₂ (store L (c + n * w) w) (as_at_start n h) (at_once n (omega arith))
      ∙ store_join L c (n * w) w (side_by_side w f n x) (f n x) x (items_lt n) (small n x) (omega (arith, after n count h))
      ∙ ap (λ (k : ℕ). store L c k (side_by_side w f n x * 2 ^ w + f n x) x) (sym (suc-mul n w))

  -- item by item from the memory at the start, the same
  pub from_start : (n : ℕ) → n ≤ count → in_turn L c w f n x ≡ in_turn L c w (λ i y. f i x) n x
  from_start zero h = refl
  from_start (suc n) h = ap₂ (store L (c + n * w) w) (as_at_start n h) (from_start n (omega arith))

  -- of the items, those done hold their values, and those to come what they held
  pub done : (n j : ℕ) → n ≤ count → j < n → field L (c + j * w) w (in_turn L c w f n x) ≡ f j x
  done zero j h l = omega arith
  done (suc n) j h l =
      let y : ℕ = in_turn L c w f n x in
      ⊎_elim
      (λ (e : j ≡ n). rw e (field_store L (c + n * w) w (f n y) y (small n y) ∙ as_at_start n h))
      (λ (lt : j < n).
      field_other L (c + n * w) w (f n y) (c + j * w) w y (small n y) (omega (arith, after n count h)) (omega (arith, after j n lt, after n count h)) (inr (omega (arith, after j n lt)))
      ∙ done n j (omega arith) lt)
      (eq-or-lt_of_le (le_of_suc-le-suc l))

  pub to_come : (n j : ℕ) → n ≤ j → j < count → field L (c + j * w) w (in_turn L c w f n x) ≡ field L (c + j * w) w x
  to_come n j h l = untouched n (omega arith) (c + j * w) w (omega (arith, after j count l)) (inl (omega (arith, mul-le-mul_right w h)))

-- ---- what an item may look at

-- any field of a source apart from the whole result
pub look_apart : (L c w count i a n b m x y : ℕ) → i < count → Apart c (count * w) a n → a + n ≤ L → a ≤ b → b + m ≤ a + n → Same L c (i * w) x y → field L b m x ≡ field L b m y
look_apart L c w count i a n b m x y h d la l u s =
    s b m (omega arith) (⊎_elim (λ p. inl (omega (arith, mul-le-mul_right w (le_of_lt h)))) (λ p. inr (omega arith)) d)

-- the item itself
pub look_same : (L c w i x y : ℕ) → (c + i * w) + w ≤ L → Same L c (i * w) x y → field L (c + i * w) w x ≡ field L (c + i * w) w y
look_same L c w i x y le s = s (c + i * w) w le (inl (omega arith))
