-- What the code tests is what the definitions say. The code compares starts by their difference and ends in bytes, the definitions compare sums.
use mathlib.Core.Path.{◌≡◌, refl, sym, ap, ◌∙◌}
use mathlib.Core.Bool.{Bool, true, false, and-true, and-false}
use Prim.Native.Nat.{ℕ, suc, ◌+◌, ◌-◌, ◌*◌, ◌/◌, ◌%◌, ◌≤◌, ◌<◌}
use native.Mathlib.Omega.{arith}
use lib.Dec.{eqb, ltb, leb}
use borrow.Author.Tests.{eq-eqb, ne_eqb, eqb-true, eqb-false, lt-ltb, le-leb, lt-leb, leb-true, leb-false}
use Rattle.fields.specs.declared.extents.Unit as U
use Rattle.fields.specs.declared.extents.Unit.TheVariants.{Bit, Byte, HalfWord, Word}
use denote.Enum.Bare.{sameb}
use Rattle.fields.specs.contracts.extents.Unit.{the_type}
use Rattle.fields.specs.declared.extents.Field.{Field}
use Rattle.fields.specs.declared.units.BitAddress.{BitAddress}
use Rattle.fields.specs.declared.units.BitCount.{BitCount}
use Rattle.fields.specs.Units.{in_bits}
use Rattle.fields.specs.Extents.{unit_shift, width_of, field_of, aligned, inside, shares, in_place}

-- two comparisons that hold together are the same test
pub same_test : (a b c d : ℕ) → (a ≤ b → c ≤ d) → (c ≤ d → a ≤ b) → leb a b ≡ leb c d
same_test a b c d to from = go (leb a b) (leb c d) refl refl
  where
    go : (s t : Bool) → leb a b ≡ s → leb c d ≡ t → s ≡ t
    go true true p q = refl
    go false false p q = refl
    go true false p q = let h : c ≤ d = to (leb-true a b p) in let g : d < c = leb-false c d q in absurd (omega arith)
    go false true p q = let h : a ≤ b = from (leb-true c d q) in let g : b < a = leb-false a b p in absurd (omega arith)

-- a field made of a count's bits
pub made : (u : U.Unit) (base : BitAddress) (bits : BitCount) (items : ℕ) → bits.0 ≡ in_bits (unit_shift u) items → ◌≡◌ {A = Field} (record { base = base; bits = bits; unit = u }) (field_of u base items)
made u base bits items e = ap (λ (n : ℕ). record { base = base; bits = record { 0 = n }; unit = u }) e

module _ (f : Field) where
  pub empty_aligned : f.bits.0 ≡ 0 → true ≡ aligned f
  unfolding aligned
  empty_aligned h = rw (eq-eqb f.bits.0 0 h)

  pub is_aligned : (w : ℕ) → (f.bits.0 ≡ 0 → ⊥) → w ≡ width_of f.unit → eqb (f.base.0 % w) 0 ≡ aligned f
  unfolding aligned
  is_aligned w h e = rw (ne_eqb f.bits.0 0 h, e)

  pub empty_inside : (n : ℕ) → f.bits.0 ≡ 0 → true ≡ inside f n
  unfolding inside
  empty_inside n h = rw (eq-eqb f.bits.0 0 h)

  pub registers_outside : (n : ℕ) → (f.bits.0 ≡ 0 → ⊥) → f.base.0 < 0x4000 → false ≡ inside f n
  unfolding inside
  registers_outside n h l = rw (ne_eqb f.bits.0 0 h, lt-leb 0x4000 f.base.0 l)

  pub is_inside : (n : ℕ) → (f.bits.0 ≡ 0 → ⊥) → 0x4000 ≤ f.base.0 → leb ((f.base.0 - 0x4000) / 8 + f.bits.0 / 8 + ((f.base.0 - 0x4000) % 8 + f.bits.0 % 8 + 7) / 8) n ≡ inside f n
  unfolding inside
  is_inside n h l =
      rw (ne_eqb f.bits.0 0 h, le-leb 0x4000 f.base.0 l)
      (same_test _ n (f.base.0 + f.bits.0) (0x4000 + 8 * n) (omega arith) (omega arith))

module _ (f g : Field) where
  pub first_empty : f.bits.0 ≡ 0 → false ≡ shares f g
  unfolding shares
  first_empty h = rw (eq-eqb f.bits.0 0 h)

  pub second_empty : (f.bits.0 ≡ 0 → ⊥) → g.bits.0 ≡ 0 → false ≡ shares f g
  unfolding shares
  second_empty h i = rw (ne_eqb f.bits.0 0 h, eq-eqb g.bits.0 0 i)

  pub starts_before : (f.bits.0 ≡ 0 → ⊥) → (g.bits.0 ≡ 0 → ⊥) → f.base.0 < g.base.0 → ltb (g.base.0 - f.base.0) f.bits.0 ≡ shares f g
  unfolding shares
  starts_before h i l =
      rw (ne_eqb f.bits.0 0 h, ne_eqb g.bits.0 0 i, lt-ltb f.base.0 (g.base.0 + g.bits.0) (omega arith))
      (same_test (suc (g.base.0 - f.base.0)) f.bits.0 (suc g.base.0) (f.base.0 + f.bits.0) (omega arith) (omega arith))

  pub starts_after : (f.bits.0 ≡ 0 → ⊥) → (g.bits.0 ≡ 0 → ⊥) → g.base.0 ≤ f.base.0 → ltb (f.base.0 - g.base.0) g.bits.0 ≡ shares f g
  unfolding shares
  starts_after h i l =
      rw (ne_eqb f.bits.0 0 h, ne_eqb g.bits.0 0 i, lt-ltb g.base.0 (f.base.0 + f.bits.0) (omega arith))
      (same_test (suc (f.base.0 - g.base.0)) g.bits.0 (suc f.base.0) (g.base.0 + g.bits.0) (omega arith) (omega arith) ∙ sym (and-true _))

-- a unit is the word, by the test that the code makes
same_word : (u : U.Unit) → sameb the_type u Word ≡ eqb (width_of u) 64
same_word Bit = refl
same_word Byte = refl
same_word HalfWord = refl
same_word Word = refl

module _ (f g : Field) {s : Bool} where
  pub first_no_word : s ≡ sameb the_type f.unit Word → s ≡ false → s ≡ in_place f g
  unfolding in_place
  first_no_word e n =
      let w : eqb (width_of f.unit) 64 ≡ false = sym (same_word f.unit) ∙ sym e ∙ n in
      n ∙ rw w (sym (and-false (eqb (width_of f.unit) (width_of g.unit))))

  pub second_no_word : {t : Bool} → s ≡ sameb the_type f.unit Word → s ≡ true → t ≡ sameb the_type g.unit Word → t ≡ false → t ≡ in_place f g
  unfolding in_place
  second_no_word e y d n =
      let w : width_of f.unit ≡ 64 = eqb-true _ _ (sym (same_word f.unit) ∙ sym e ∙ y) in
      let v : width_of g.unit ≡ 64 → ⊥ = eqb-false _ _ (sym (same_word g.unit) ∙ sym d ∙ n) in
      n ∙ rw (w, ne_eqb 64 (width_of g.unit) (omega arith)) refl

  pub words_both : {t : Bool} → s ≡ sameb the_type f.unit Word → s ≡ true → t ≡ sameb the_type g.unit Word → t ≡ true → eqb f.base.0 g.base.0 ≡ in_place f g
  unfolding in_place
  words_both e y d n =
      let w : width_of f.unit ≡ 64 = eqb-true _ _ (sym (same_word f.unit) ∙ sym e ∙ y) in
      let v : width_of g.unit ≡ 64 = eqb-true _ _ (sym (same_word g.unit) ∙ sym d ∙ n) in
      rw (w, v) refl
