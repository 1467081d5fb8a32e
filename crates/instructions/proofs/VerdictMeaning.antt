-- What it means that 8 to 11 let an instruction pass, in bits: its fields begin at multiples of their units, lie in memory, and the result shares no bit with a
-- source or the control field, or begins at a word source's start. The loops count bits from the start of memory, so the laws are in these offsets.
use mathlib.Core.Path.{◌≡◌, refl, sym, ap, ◌∙◌}
use Rattle.std.specs.Prelude.{Some}
use Rattle.fields.specs.declared.units.BitAddress.{BitAddress}
use mathlib.Core.Bool.{Bool, true, false}
use mathlib.Core.Logic.{◌⊎◌, inl, inr}
use Prim.Native.Nat.{ℕ, ◌+◌, ◌-◌, ◌*◌, ◌%◌, ◌≤◌, ◌<◌}
use native.Mathlib.Omega.{arith}
use borrow.Author.Tests.{eqb-true, not-false}
use Rattle.fields.specs.declared.extents.Unit as U
use Rattle.fields.specs.declared.extents.Unit.TheVariants.{Bit, Byte, HalfWord, Word}
use Rattle.fields.specs.declared.extents.Field.{Field}
use Rattle.fields.specs.Field.{Apart}
use Rattle.fields.specs.Extents.{width_of, end_of, aligned, inside, shares}
use Rattle.fields.proofs.FieldMeaning.{Multiple, aligned_multiple, inside_ends, shares_apart, in_place_words}
use Rattle.instructions.specs.declared.operands.Operands.{Operands}
use Rattle.instructions.specs.declared.layout.Fields.{Fields}
use Rattle.instructions.specs.Layout.{fields_of}
use Rattle.instructions.specs.Verdict.{checks, case_of, off_half_words, misaligned, outside, clash, overlapping, verdict_of}
use Rattle.instructions.proofs.VerdictTests.{both_false, and_not}
use Rattle.instructions.proofs.VerdictOrder.{Passes, end, next, verdict_none}

-- where a field begins, in bits from the start of memory
abbrev pub offset : Field → ℕ
offset f = f.base.0 - 0x4000

-- ---- a field that is there

-- it lies in n bytes and begins at a multiple of its unit
pub record Placed (f : Field) (n : ℕ) : Type 0 where
  pub from : 0x4000 ≤ f.base.0
  pub upto : offset f + f.bits.0 ≤ 8 * n
  pub whole : offset f % width_of f.unit ≡ 0

offset_whole : (u : U.Unit) (a : ℕ) → 0x4000 ≤ a → Multiple (width_of u) a → (a - 0x4000) % width_of u ≡ 0
offset_whole Bit a l m = omega arith
offset_whole Byte a l m = omega arith
offset_whole HalfWord a l m = omega arith
offset_whole Word a l m = omega arith

pub placed : (f : Field) (n : ℕ) → 0 < f.bits.0 → aligned f ≡ true → inside f n ≡ true → Placed f n
placed f n some a i =
    let e : (0x4000 ≤ f.base.0) × (end_of f ≤ 0x4000 + 8 * n) = inside_ends f n some i in
    record { from = e.0; upto = omega arith; whole = offset_whole f.unit f.base.0 e.0 ((aligned_multiple f some).0 a) }

-- two that are there share no bit, or both are of words and begin together
pub clear : (r s : Field) (n : ℕ) → 0 < r.bits.0 → 0 < s.bits.0 → inside r n ≡ true → inside s n ≡ true → clash r s ≡ false
    → ((width_of r.unit ≡ 64) × ((width_of s.unit ≡ 64) × (offset r ≡ offset s))) ⊎ Apart (offset r) r.bits.0 (offset s) s.bits.0
clear r s n hr hs ir is e = go (shares r s) refl
  where
    er : (0x4000 ≤ r.base.0) × (end_of r ≤ 0x4000 + 8 * n)
    er = inside_ends r n hr ir

    es : (0x4000 ≤ s.base.0) × (end_of s ≤ 0x4000 + 8 * n)
    es = inside_ends s n hs is

    moved : Apart r.base.0 r.bits.0 s.base.0 s.bits.0 → Apart (offset r) r.bits.0 (offset s) s.bits.0
    moved (inl l) = let x = er in let y = es in inl (omega arith)
    moved (inr l) = let x = er in let y = es in inr (omega arith)

    go : (b : Bool) → shares r s ≡ b → ((width_of r.unit ≡ 64) × ((width_of s.unit ≡ 64) × (offset r ≡ offset s))) ⊎ Apart (offset r) r.bits.0 (offset s) s.bits.0
    go true t = let p = in_place_words r s (and_not _ _ e t) in inl (p.0, (p.1.0, ap (λ (x : ℕ). x - 0x4000) p.1.1))
    go false t = inr (moved (shares_apart r s hr hs t))

-- ---- all that passing says

pub record Passed (f : Fields) (n : ℕ) : Type 0 where
  pub result_aligned : aligned f.result ≡ true
  pub first_aligned : aligned f.first ≡ true
  pub second_aligned : aligned f.second ≡ true
  pub target_aligned : (a : BitAddress) → f.target ≡ Some a → a.0 % 32 ≡ 0
  pub enough : f.short ≡ false
  pub result_inside : inside f.result n ≡ true
  pub first_inside : inside f.first n ≡ true
  pub second_inside : inside f.second n ≡ true
  pub control_inside : inside f.control n ≡ true
  pub first_clear : clash f.result f.first ≡ false
  pub second_clear : clash f.result f.second ≡ false
  pub control_clear : shares f.result f.control ≡ false

module _ (f : Fields) (n : ℕ) where
  all_four : misaligned f ≡ false → f.short ≡ false → outside f n ≡ false → overlapping f ≡ false → Passed f n
  unfolding misaligned outside overlapping
  all_four m s o v =
      let a = both_false _ _ m in
      let b = both_false _ _ a.1 in
      let c = both_false _ _ b.1 in
      let d = both_false _ _ o in
      let e = both_false _ _ d.1 in
      let g = both_false _ _ e.1 in
      let h = both_false _ _ v in
      let i = both_false _ _ h.1 in
      record {
        result_aligned = not-false _ b.0;
        first_aligned = not-false _ c.0;
        second_aligned = not-false _ c.1;
        target_aligned = λ b t. eqb-true _ _ (not-false _ (sym (ap off_half_words t) ∙ a.0));
        enough = s;
        result_inside = not-false _ d.0;
        first_inside = not-false _ e.0;
        second_inside = not-false _ g.0;
        control_inside = not-false _ g.1;
        first_clear = h.0;
        second_clear = i.0;
        control_clear = i.1;
      }

-- a verdict of 0 says all of it
pub verdict_passed : (p w : ℕ) (o : Operands) (n : ℕ) → verdict_of p w o n ≡ 0 → Passed (fields_of w o) n
verdict_passed p w o n e = go ((verdict_none p w o n).0 e)
  where
    go : Passes (case_of p w o n) checks → Passed (fields_of w o) n
    go (next _ (next _ (next _ (next _ (next _ (next m (next s (next x (next v end))))))))) = all_four (fields_of w o) n m s x v
