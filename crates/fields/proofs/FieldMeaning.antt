-- What the checks of a field mean, bit by bit: its start is a multiple of its unit, every bit of it lies in memory, some bit lies in both fields or
-- none does. Two starts and two ends decide whether a bit is shared; the bit that shows it is the later start.
use mathlib.Core.Path.{◌≡◌, refl, sym, ap, ◌∙◌}
use mathlib.Core.Logic.{◌⊎◌, inl, inr, ◌↔◌}
use mathlib.Core.Bool.{Bool, true, false, not, ◌&&◌, ◌||◌}
use Prim.Native.Nat.{ℕ, ◌+◌, ◌-◌, ◌*◌, ◌/◌, ◌%◌, ◌^◌, ◌≤◌, ◌<◌}
use native.Mathlib.Nat.{div-add-mod', mul-mod_left, mod-eq_of_lt, mul-le-mul}
use native.Mathlib.Omega.{arith}
use lib.Dec.{eqb, ltb, leb}
use borrow.Author.Tests.{eq-eqb, ne_eqb, lt-ltb, le-leb, leb-true, ltb-true, ltb-false, eqb-true, eqb-false}
use Rattle.fields.specs.declared.extents.Unit as U
use Rattle.fields.specs.declared.extents.Unit.TheVariants.{Bit, Byte, HalfWord, Word}
use Rattle.fields.specs.declared.extents.Field.{Field}
use Rattle.fields.specs.declared.units.BitAddress.{BitAddress}
use Rattle.fields.specs.Field.{Apart}
use Rattle.fields.specs.Extents.{unit_shift, width_of, field_of, end_of, aligned, inside, shares, in_place}

-- bit address x is one of the field's
abbrev pub Within : Field → ℕ → Type 0
Within f x = (f.base.0 ≤ x) × (x < end_of f)

pub record Multiple (w x : ℕ) : Type 0 where
  pub times : ℕ
  pub whole : x ≡ times * w

-- a bit address that is in both
pub record Common (f g : Field) : Type 0 where
  pub bit : ℕ
  pub in_first : Within f bit
  pub in_second : Within g bit

never : {A : Type 0} → true ≡ false → A
never e = let z : ◌≡◌ {A = ℕ} 0 1 = cc in absurd (omega arith)

and_both : (a b : Bool) → a && b ≡ true → (a ≡ true) × (b ≡ true)
and_both true b e = (refl, e)
and_both false b e = never (sym e)

-- ---- 8

pub aligned_multiple : (f : Field) → 0 < f.bits.0 → (aligned f ≡ true) ↔ Multiple (width_of f.unit) f.base.0
unfolding aligned
aligned_multiple f h = rw (ne_eqb f.bits.0 0 (omega arith)) (to, from)
  where
    to : eqb (f.base.0 % width_of f.unit) 0 ≡ true → Multiple (width_of f.unit) f.base.0
    to e =
        let z : f.base.0 % width_of f.unit ≡ 0 = eqb-true _ _ e in
        let d : f.base.0 / width_of f.unit * width_of f.unit + f.base.0 % width_of f.unit ≡ f.base.0 = div-add-mod' f.base.0 (width_of f.unit) in
        record { times = f.base.0 / width_of f.unit; whole = omega arith }

    from : Multiple (width_of f.unit) f.base.0 → eqb (f.base.0 % width_of f.unit) 0 ≡ true
    from m = eq-eqb _ _ (ap (λ (x : ℕ). x % width_of f.unit) m.whole ∙ mul-mod_left m.times (width_of f.unit))

-- ---- 10

module _ (f : Field) (n : ℕ) where
  abbrev InMemory : Type 0
  InMemory = (x : ℕ) → Within f x → (0x4000 ≤ x) × (x < 0x4000 + 8 * n)

  pub inside_every : (inside f n ≡ true) ↔ ((x : ℕ) → Within f x → (0x4000 ≤ x) × (x < 0x4000 + 8 * n))
  unfolding inside
  inside_every = go (eqb f.bits.0 0) refl
    where
      to : leb 0x4000 f.base.0 && leb (end_of f) (0x4000 + 8 * n) ≡ true → InMemory
      to e x i =
          let b : (leb 0x4000 f.base.0 ≡ true) × (leb (end_of f) (0x4000 + 8 * n) ≡ true) = and_both (leb 0x4000 f.base.0) (leb (end_of f) (0x4000 + 8 * n)) e in
          let l : 0x4000 ≤ f.base.0 = leb-true _ _ b.0 in
          let u : end_of f ≤ 0x4000 + 8 * n = leb-true _ _ b.1 in
          omega arith

      from : (f.bits.0 ≡ 0 → ⊥) → InMemory → leb 0x4000 f.base.0 && leb (end_of f) (0x4000 + 8 * n) ≡ true
      from h i =
          let first : (0x4000 ≤ f.base.0) × (f.base.0 < 0x4000 + 8 * n) = i f.base.0 (omega arith) in
          let last : (0x4000 ≤ end_of f - 1) × (end_of f - 1 < 0x4000 + 8 * n) = i (end_of f - 1) (omega arith) in
          rw (le-leb 0x4000 f.base.0 (omega arith)) (le-leb (end_of f) (0x4000 + 8 * n) (omega arith))

      go : (b : Bool) → eqb f.bits.0 0 ≡ b → (b || (leb 0x4000 f.base.0 && leb (end_of f) (0x4000 + 8 * n)) ≡ true) ↔ InMemory
      go true p = let z : f.bits.0 ≡ 0 = eqb-true _ _ p in ((λ e. omega arith), (λ i. refl))
      go false p = (to, from (eqb-false _ _ p))

  -- its first bit and its end, as the accesses to memory ask for them
  pub inside_ends : 0 < f.bits.0 → inside f n ≡ true → (0x4000 ≤ f.base.0) × (end_of f ≤ 0x4000 + 8 * n)
  inside_ends h e =
      let first : (0x4000 ≤ f.base.0) × (f.base.0 < 0x4000 + 8 * n) = inside_every.0 e f.base.0 (omega arith) in
      let last : (0x4000 ≤ end_of f - 1) × (end_of f - 1 < 0x4000 + 8 * n) = inside_every.0 e (end_of f - 1) (omega arith) in
      omega arith

-- ---- 11

-- both have bits, and each starts before the other's end
abbrev Crossing : ℕ → ℕ → ℕ → ℕ → Type 0
Crossing a n b m = (0 < n) × ((0 < m) × ((a < b + m) × (b < a + n)))

tested : (a n b m : ℕ) (p q : Bool) → eqb n 0 ≡ p → eqb m 0 ≡ q → (not p && (not q && (ltb a (b + m) && ltb b (a + n))) ≡ true) ↔ Crossing a n b m
tested a n b m true q ep eq = let z : n ≡ 0 = eqb-true _ _ ep in ((λ e. never (sym e)), (λ t. absurd (omega arith)))
tested a n b m false true ep eq = let z : m ≡ 0 = eqb-true _ _ eq in ((λ e. never (sym e)), (λ t. absurd (omega arith)))
tested a n b m false false ep eq =
    let hn : n ≡ 0 → ⊥ = eqb-false _ _ ep in
    let hm : m ≡ 0 → ⊥ = eqb-false _ _ eq in (
      (λ e.
          let t : (ltb a (b + m) ≡ true) × (ltb b (a + n) ≡ true) = and_both (ltb a (b + m)) (ltb b (a + n)) e in
          let l : a < b + m = ltb-true _ _ t.0 in
          let r : b < a + n = ltb-true _ _ t.1 in
          omega arith),
      (λ t. rw (lt-ltb a (b + m) (omega arith)) (lt-ltb b (a + n) (omega arith))),
    )

-- .. and else one has no bits, or they lie apart
crossing_or : (a n b m : ℕ) → (Crossing a n b m → ⊥) → (n ≡ 0) ⊎ ((m ≡ 0) ⊎ Apart a n b m)
crossing_or a n b m none = go (ltb 0 n) (ltb 0 m) (ltb a (b + m)) (ltb b (a + n)) refl refl refl refl
  where
    go : (p q s t : Bool) → ltb 0 n ≡ p → ltb 0 m ≡ q → ltb a (b + m) ≡ s → ltb b (a + n) ≡ t → (n ≡ 0) ⊎ ((m ≡ 0) ⊎ Apart a n b m)
    go false q s t ep eq es et = let z : n ≤ 0 = ltb-false _ _ ep in inl (omega arith)
    go true false s t ep eq es et = let z : m ≤ 0 = ltb-false _ _ eq in inr (inl (omega arith))
    go true true false t ep eq es et = inr (inr (inr (ltb-false _ _ es)))
    go true true true false ep eq es et = inr (inr (inl (ltb-false _ _ et)))
    go true true true true ep eq es et = absurd (none (ltb-true _ _ ep, (ltb-true _ _ eq, (ltb-true _ _ es, ltb-true _ _ et))))

module _ (f g : Field) where
  abbrev Crossed : Type 0
  Crossed = Crossing f.base.0 f.bits.0 g.base.0 g.bits.0

  crossed : (shares f g ≡ true) ↔ Crossed
  unfolding shares
  crossed = tested f.base.0 f.bits.0 g.base.0 g.bits.0 _ _ refl refl

  -- they share a bit exactly if there is one in both
  pub shares_common : (shares f g ≡ true) ↔ Common f g
  shares_common = ((λ e. at (crossed.0 e) _ refl), (λ k. crossed.1 (omega arith)))
    where
      at : Crossed → (t : Bool) → ltb f.base.0 g.base.0 ≡ t → Common f g
      at k true e = let l : f.base.0 < g.base.0 = ltb-true _ _ e in record { bit = g.base.0; in_first = omega arith; in_second = omega arith }
      at k false e = let l : g.base.0 ≤ f.base.0 = ltb-false _ _ e in record { bit = f.base.0; in_first = omega arith; in_second = omega arith }

  -- and none exactly if one is empty or they lie apart
  pub shares_none : (shares f g ≡ false) ↔ ((f.bits.0 ≡ 0) ⊎ ((g.bits.0 ≡ 0) ⊎ Apart f.base.0 f.bits.0 g.base.0 g.bits.0))
  shares_none = ((λ e. crossing_or _ _ _ _ (λ k. never (sym (crossed.1 k) ∙ e))), (λ d. from (shares f g) refl d))
    where
      from : (t : Bool) → shares f g ≡ t → (f.bits.0 ≡ 0) ⊎ ((g.bits.0 ≡ 0) ⊎ Apart f.base.0 f.bits.0 g.base.0 g.bits.0) → t ≡ false
      from false p d = refl
      from true p (inl d) = let c : Crossed = crossed.0 p in absurd (omega arith)
      from true p (inr (inl d)) = let c : Crossed = crossed.0 p in absurd (omega arith)
      from true p (inr (inr (inl d))) = let c : Crossed = crossed.0 p in absurd (omega arith)
      from true p (inr (inr (inr d))) = let c : Crossed = crossed.0 p in absurd (omega arith)

  pub shares_apart : 0 < f.bits.0 → 0 < g.bits.0 → shares f g ≡ false → Apart f.base.0 f.bits.0 g.base.0 g.bits.0
  shares_apart h i e = go (shares_none.0 e)
    where
      go : (f.bits.0 ≡ 0) ⊎ ((g.bits.0 ≡ 0) ⊎ Apart f.base.0 f.bits.0 g.base.0 g.bits.0) → Apart f.base.0 f.bits.0 g.base.0 g.bits.0
      go (inl z) = absurd (omega arith)
      go (inr (inl z)) = absurd (omega arith)
      go (inr (inr a)) = a

  -- the exception of 11: words both, and the same start
  pub in_place_words : in_place f g ≡ true → (width_of f.unit ≡ 64) × ((width_of g.unit ≡ 64) × (f.base.0 ≡ g.base.0))
  unfolding in_place
  in_place_words e =
      let a : (eqb (width_of f.unit) (width_of g.unit) ≡ true) × (eqb (width_of f.unit) 64 && eqb f.base.0 g.base.0 ≡ true) = and_both (eqb (width_of f.unit) (width_of g.unit)) (eqb (width_of f.unit) 64 && eqb f.base.0 g.base.0) e in
      let b : (eqb (width_of f.unit) 64 ≡ true) × (eqb f.base.0 g.base.0 ≡ true) = and_both (eqb (width_of f.unit) 64) (eqb f.base.0 g.base.0) a.1 in
      let w : width_of f.unit ≡ 64 = eqb-true _ _ b.0 in
      (w, (sym (eqb-true _ _ a.0) ∙ w, eqb-true _ _ b.1))

-- ---- a field that is empty is not checked under 8, 10 or 11

module _ (f : Field) (h : f.bits.0 ≡ 0) where
  pub empty_unchecked : (n : ℕ) (g : Field) → (aligned f ≡ true) × ((inside f n ≡ true) × ((shares f g ≡ false) × (shares g f ≡ false)))
  unfolding aligned
  empty_unchecked n g = (rw (eq-eqb f.bits.0 0 h), ((inside_every f n).1 (omega arith), ((shares_none f g).1 (inl h), (shares_none g f).1 (inr (inl h)))))

-- ---- the makers

pub width_shift : (u : U.Unit) → 2 ^ unit_shift u ≡ width_of u
width_shift Bit = refl
width_shift Byte = refl
width_shift HalfWord = refl
width_shift Word = refl

width_le : (u : U.Unit) → width_of u ≤ 64
width_le Bit = omega arith
width_le Byte = omega arith
width_le HalfWord = omega arith
width_le Word = omega arith

module _ (u : U.Unit) (base : BitAddress) (items : ℕ) where
  -- a field has all the bits of its items, if these fit 48 bits
  pub all_bits : items * width_of u < 2 ^ 48 → (field_of u base items).bits.0 ≡ items * width_of u
  all_bits h = rw (width_shift u) (mod-eq_of_lt h)

  -- .. as those of every length do
  pub length_fits : items ≤ 65535 → items * width_of u ≤ 4194240
  length_fits h = mul-le-mul {n₁ = items} {m₁ = width_of u} {n₂ = 65535} {m₂ = 64} h (width_le u)
