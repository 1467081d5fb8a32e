-- A vector, bit or move instruction that has no items is refused by none of 8 to 11: all its fields are then empty, and an empty field passes. Nor is a
-- field checked that nothing is read from: it is empty by itself.
use mathlib.Core.Path.{◌≡◌, refl, sym, ap, ◌∙◌}
use Rattle.std.specs.Prelude.{None}
use mathlib.Core.Bool.{Bool, true, false, cond, not, ◌&&◌, ◌||◌}
use Prim.Native.Nat.{ℕ, min, ◌≤◌}
use native.Mathlib.Omega.{arith}
use lib.Dec.{eqb}
use borrow.Author.Tests.{eq-eqb, le-ltb}
use Rattle.numbers.specs.Words.{low48}
use Rattle.fields.specs.declared.extents.Unit as U
use Rattle.fields.specs.declared.extents.Unit.TheVariants.{Bit, Byte, HalfWord, Word}
use Rattle.fields.specs.declared.extents.Field.{Field}
use Rattle.fields.specs.declared.units.BitAddress.{BitAddress}
use Rattle.fields.specs.Field.{field}
use Rattle.fields.specs.Extents.{field_of, absent_field, aligned, inside, shares, in_place}
use Rattle.fields.specs.Gathers.{furthest, compress_items, merge_items, compress_r}
use Rattle.fields.proofs.FieldMeaning.{empty_unchecked}
use Rattle.fields.proofs.GatherMeaning.{merge_s_unread, mask_s_unread}
use Rattle.instructions.specs.declared.operands.Operands.{Operands}
use Rattle.instructions.specs.declared.layout.Fields.{Fields}
use Rattle.fields.specs.declared.gathers.Rule.{Rule}
use Rattle.instructions.specs.Meanings.{Work, gathers, each_of_a_b, each_of_a, half_of_a, moves, Meaning, unlisted, exits, acts, branches, works, goes_by_items, kind_for}
use Rattle.instructions.specs.Operands.{meaning_in, g_bit, R, S, T, length_in, base_in, indexed}
use Rattle.instructions.specs.Plan.{items_of}
use Rattle.instructions.specs.Planned.{plan_by, plan_in}
use Rattle.instructions.specs.Instruction.{by_items, plan_of, count_of}
use Rattle.instructions.specs.Layout.{source_of, short_of, control_of, result_of, vector_of, runs_of, zeros_of, compress_of, woven_of, merge_of, mask_of, move_of, of_kind, fields_of}
use Rattle.instructions.specs.Verdict.{off_half_words, misaligned, outside, overlapping}
use Rattle.instructions.specs.Private.Inner.{refusal_of}
use Rattle.instructions.proofs.VerdictTests.{never}
use Rattle.instructions.proofs.LayoutMade.{fields_mean}

abbrev Bare : Field → Type 0
Bare f = f.bits.0 ≡ 0

-- nothing to check
pub record Empty (f : Fields) : Type 0 where
  pub result : Bare f.result
  pub first : Bare f.first
  pub second : Bare f.second
  pub control : Bare f.control
  pub short : f.short ≡ false
  pub goes_on : f.target ≡ None

-- ---- an empty field passes

-- the four tests, over what they ask
passing : (t ra aa ba s ri ai bi ki sa pa sb pb sk : Bool) → t ≡ false → ra ≡ true → aa ≡ true → ba ≡ true → s ≡ false → ri ≡ true → ai ≡ true → bi ≡ true → ki ≡ true → sa ≡ false → sb ≡ false → sk ≡ false
    → ◌≡◌ {A = ℕ} (cond (t || (not ra || (not aa || not ba))) 8 (cond s 9 (cond (not ri || (not ai || (not bi || not ki))) 10 (cond ((sa && not pa) || ((sb && not pb) || sk)) 11 0)))) 0
passing t ra aa ba s ri ai bi ki sa pa sb pb sk et era eaa eba es eri eai ebi eki esa esb esk =
    rw (et, era, eaa, eba, es, eri, eai, ebi, eki, esa, esb, esk)

pub empty_passes : (f : Fields) (n : ℕ) → Empty f → refusal_of f n ≡ 0
unfolding refusal_of misaligned outside overlapping
empty_passes f n e =
    let r = empty_unchecked f.result e.result n in
    let a = empty_unchecked f.first e.first n absent_field in
    let b = empty_unchecked f.second e.second n absent_field in
    let k = empty_unchecked f.control e.control n absent_field in
    passing _ _ _ _ _ _ _ _ _ _ (in_place f.result f.first) _ (in_place f.result f.second) _ (ap off_half_words e.goes_on) (r absent_field).0 a.0 b.0 e.short (r absent_field).1.0 a.1.0 b.1.0 k.1.0 (r f.first).1.1.0 (r f.second).1.1.0 (r f.control).1.1.0

-- ---- an instruction with no items

no_bits : (u : U.Unit) (b : BitAddress) (n : ℕ) → n ≡ 0 → Bare (field_of u b n)
no_bits Bit b n e = omega arith
no_bits Byte b n e = omega arith
no_bits HalfWord b n e = omega arith
no_bits Word b n e = omega arith

bare_or : (t : Bool) (x y : Field) → Bare x → Bare y → Bare (cond t x y)
bare_or true x y p q = p
bare_or false x y p q = q

source_bare : (free : Bool) (d n : ℕ) → n ≡ 0 → Bare (source_of free d n)
unfolding source_of
source_bare free d n e = bare_or free absent_field (field_of Word (base_in d) n) refl (no_bits Word (base_in d) n e)

short_not : (free : Bool) (d n : ℕ) → n ≡ 0 → short_of free d n ≡ false
unfolding short_of
short_not true d n e = refl
short_not false d n e = le-ltb (length_in d) n (omega arith)

vector_empty : (w : ℕ) (o : Operands) (u : U.Unit) (one : Bool) → length_in o.c ≡ 0 → Empty (vector_of w o (result_of u o) one)
unfolding vector_of control_of
vector_empty w o u one e = record {
  result = no_bits u (base_in o.c) (length_in o.c) e;
  first = source_bare (g_bit 3 w) o.a (length_in o.c) e;
  second = source_bare (one || g_bit 4 w) o.b (length_in o.c) e;
  control = bare_or (eqb (field 64 48 8 w) 0) absent_field (field_of Bit (base_in o.z) (length_in o.c)) refl (no_bits Bit (base_in o.z) (length_in o.c) e);
  short = rw (short_not (g_bit 3 w) o.a (length_in o.c) e, short_not (one || g_bit 4 w) o.b (length_in o.c) e);
  goes_on = refl;
}

zeros_bare : (d n : ℕ) → n ≡ 0 → Bare (zeros_of d n)
unfolding zeros_of
zeros_bare d n e = bare_or (eqb (low48 d) 0) absent_field (field_of Bit (base_in d) n) refl (no_bits Bit (base_in d) n e)

none_read : (past : ℕ → ℕ) (n : ℕ) → n ≡ 0 → furthest past n ≡ 0
unfolding furthest
none_read past n e = rw e

compress_empty : (o : Operands) → compress_items (runs_of o) ≡ 0 → Empty (compress_of o)
compress_empty o e = record {
  result = no_bits Bit (base_in (T o)) (compress_items (runs_of o)) e;
  first = no_bits Bit (base_in (R o)) (compress_r (runs_of o)) (none_read _ (compress_items (runs_of o)) e);
  second = refl;
  control = refl;
  short = refl;
  goes_on = refl;
}

-- merge and mask, by how far they read
woven_empty : (o : Operands) (past_r past_s : ℕ → ℕ) (n : ℕ) → n ≡ 0 → Empty (woven_of o n (furthest past_r n) (furthest past_s n))
woven_empty o past_r past_s n e = record {
  result = no_bits Bit (base_in (T o)) n e;
  first = no_bits Bit (base_in (R o)) _ (none_read past_r n e);
  second = zeros_bare (S o) _ (none_read past_s n e);
  control = refl;
  short = refl;
  goes_on = refl;
}

move_empty : (o : Operands) → length_in o.c ≡ 0 → Empty (move_of o)
move_empty o e = record {
  result = no_bits Byte (indexed Byte o.c o.z) (length_in o.c) e;
  first = no_bits Byte (indexed Byte o.a o.x) (min (length_in o.a) (length_in o.c)) (let z : length_in o.c ≡ 0 = e in omega arith);
  second = refl;
  control = refl;
  short = refl;
  goes_on = refl;
}

work_empty : (k : Work) (w : ℕ) (o : Operands) → items_of (plan_by k w o) ≡ 0 → Empty (of_kind (kind_for (works k)) w o)
unfolding of_kind items_of
work_empty (gathers Rule.Compress) w o e = compress_empty o e
work_empty (gathers Rule.Merge) w o e = woven_empty o _ _ (merge_items (runs_of o)) e
work_empty (gathers Rule.Mask) w o e = woven_empty o _ _ (merge_items (runs_of o)) e
work_empty (each_of_a_b f) w o e = vector_empty w o Word false e
work_empty (each_of_a f) w o e = vector_empty w o Word true e
work_empty (half_of_a f) w o e = vector_empty w o HalfWord true e
work_empty moves w o e = move_empty o e

-- an instruction without items skips 8 to 11: the count is the one by which it runs
pub no_items_pass : (w : ℕ) (o : Operands) (n : ℕ) → by_items w ≡ true → count_of w o ≡ 0 → refusal_of (fields_of w o) n ≡ 0
unfolding by_items plan_of plan_in
no_items_pass w o n is none = ap (λ (f : Fields). refusal_of f n) (fields_mean w o) ∙ go (meaning_in w) is none
  where
    go : (m : Meaning) → goes_by_items m ≡ true → items_of (plan_in m w o) ≡ 0 → refusal_of (of_kind (kind_for m) w o) n ≡ 0
    go unlisted is e = never (sym is)
    go exits is e = never (sym is)
    go (acts a) is e = never (sym is)
    go (branches c) is e = never (sym is)
    go (works k) is e = empty_passes (of_kind (kind_for (works k)) w o) n (work_empty k w o e)

-- ---- a source that nothing is read from is not checked under 8, 10 or 11

-- what an empty source is spared
abbrev Unchecked : Field → Type 0
Unchecked f = (n : ℕ) (result : Field) → (aligned f ≡ true) × ((inside f n ≡ true) × ((shares f result ≡ false) × (shares result f ≡ false)))

-- a source that register A or B itself supplies
pub broadcast_unchecked : (d n : ℕ) → Unchecked (source_of true d n)
unfolding source_of
broadcast_unchecked d n = empty_unchecked absent_field refl

-- the control field of Z 00
pub no_control_unchecked : (w z n : ℕ) → field 64 48 8 w ≡ 0 → Unchecked (control_of w z n)
unfolding control_of
no_control_unchecked w z n e = rw (eq-eqb _ 0 e) (empty_unchecked absent_field refl)

-- S where merge and mask take zeros for it
pub zeros_unchecked : (d n : ℕ) → low48 d ≡ 0 → Unchecked (zeros_of d n)
unfolding zeros_of
zeros_unchecked d n e = rw (eq-eqb _ 0 e) (empty_unchecked absent_field refl)

-- S where n is at most r
pub merge_unchecked : (o : Operands) → length_in o.a ≤ length_in o.g → Unchecked (merge_of o).second
merge_unchecked o h = empty_unchecked _ (zeros_bare o.x _ (merge_s_unread (runs_of o) h))

pub mask_unchecked : (o : Operands) → length_in o.a ≤ length_in o.g → Unchecked (mask_of o).second
mask_unchecked o h = empty_unchecked _ (zeros_bare o.x _ (mask_s_unread (runs_of o) h))

-- A of a move, where its length is zero
pub move_unchecked : (o : Operands) → length_in o.a ≡ 0 → Unchecked (move_of o).first
move_unchecked o h = empty_unchecked _ (no_bits Byte (indexed Byte o.a o.x) (min (length_in o.a) (length_in o.c)) (let z : length_in o.a ≡ 0 = h in omega arith))
