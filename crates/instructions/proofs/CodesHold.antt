-- The list of `Codes` holds: each line is what the definitions make of the meaning that the table gives its code.
use mathlib.Core.Path.{◌≡◌, refl, sym, ap, ap₂, ◌∙◌}
use mathlib.Core.List.{List, [], ◌∷◌, map}
use mathlib.Core.Bool.{Bool, true, false, cond, not, ◌&&◌, ◌||◌}
use Rattle.std.specs.Prelude.{Some, None}
use Prim.Native.Nat.{ℕ, zero, suc, ◌+◌, ◌*◌, ◌%◌, ◌^◌, ◌≤◌, ◌<◌}
use native.Mathlib.Nat.{mod-lt, mod-eq_of_lt, zero-mul}
use native.Mathlib.Omega.{arith}
use lib.Bits.{or_zero_r}
use lib.Dec.{eqb, ltb, leb}
use lib.Pow.{pow_pos}
use borrow.Author.Tests.{eqb-true, leb-true}
use Rattle.numbers.specs.Words.{low48}
use Rattle.numbers.proofs.Raised.{either}
use Rattle.fields.specs.Field.{field, store, side_by_side}
use Rattle.fields.specs.Memory.{right_length}
use Rattle.fields.specs.Units.{formed}
use Rattle.fields.specs.Gathers.{SourceBit, of_r, of_s, bit_items}
use Rattle.fields.proofs.Places.{field_lt, store_none}
use Rattle.fields.proofs.Turns.{in_turn, at_once}
use Rattle.fields.specs.declared.extents.Unit.TheVariants.{Byte}
use Rattle.numbers.specs.declared.flags.Made.{Made}
use Rattle.fields.specs.declared.units.BitAddress.{BitAddress}
use Rattle.instructions.specs.Meanings.{plain, goes_by_items, kind_for, to_t, to_half_t, loads_byte, loads_word, stores_byte, stores_word, gathers, each_of_a_b, each_of_a, half_of_a, moves, Meaning, unlisted, exits, acts, branches, works}
use Rattle.instructions.specs.Table.{Line, table, meaning_of}
use Rattle.instructions.specs.Operands.{code_in, found_in, meaning_in, row_says, g_bit, length_in, indexed}
use Rattle.std.specs.Prelude.{Option, Some, None}
use Rattle.instructions.specs.declared.table.Row.{Row}
use Rattle.instructions.specs.declared.operands.Operands.{Operands}
use Rattle.instructions.specs.Fetch.{length_of}
use Rattle.instructions.specs.Branches.{taken_of, target_of, branch_of}
use Rattle.instructions.specs.Verdict.{not_in_memory, at_exit, check, word_checks, field_checks, checks, case_of, verdict_of}
use Rattle.instructions.specs.Effects.{next_p}
use Rattle.instructions.specs.Scalars.{outcome_in, scalar_of}
use Rattle.instructions.specs.Items.{bits, fixed, Shape, value_at, stored_at, made_at, item_at, flags_at, worked, flags_together, whole}
use Rattle.instructions.specs.Plan.{source_item, control_bit, sense_of, second_bit, bit_of, taken_by, byte_of, shape_of, items_of}
use Rattle.instructions.specs.Planned.{place_of, source_in, control_in, second_in, plan_in}
use Rattle.instructions.specs.Instruction.{by_items, plan_of, count_of, whole_of, leaving, done_by, acts_of}
use Rattle.instructions.proofs.Codes as C
use Rattle.instructions.proofs.Codes.{Before, Result, ends, becomes, Does, codes}
use Rattle.instructions.proofs.VerdictTests.{never, both_true}
use Rattle.instructions.proofs.VerdictOrder.{Passes, next, verdict_none, only_one}
use Rattle.instructions.proofs.TablePlaces.{every}
use Rattle.instructions.proofs.TableRules.{ends as ends_kind, In, here, there, one_meaning, its}
use Rattle.instructions.proofs.Passing.{sound}
use Rattle.instructions.proofs.Readied.{accepted}
use Rattle.instructions.proofs.Steps.{verdict_there}

-- a byte is all that the register holds
cleared : (v : ℕ) → store 64 56 8 v 0 ≡ v
cleared v = omega arith

-- what comes of a meaning
abbrev pub comes_of : Meaning → Before → Result
comes_of unlisted s = ends
comes_of exits s = ends
comes_of (acts (to_t f)) s = C.to_t s (f (C.R s) (C.S s))
comes_of (acts (to_half_t f)) s = C.to_half_t s (f (C.R s) (C.S s))
comes_of (acts loads_byte) s = C.to_t s (plain (C.bits_from s (C.byte_at s) 8))
comes_of (acts loads_word) s = C.to_t s (plain (C.bits_from s (C.word_at s) 64))
comes_of (acts stores_byte) s = C.to_memory s (C.byte_at s) 8 (field 64 56 8 (C.T s))
comes_of (acts stores_word) s = C.to_memory s (C.word_at s) 64 (C.T s)
comes_of (branches c) s = C.to_c s c
comes_of (works (gathers rule)) s = C.bits_of_t s (bit_items rule (C.runs s)) (taken_by rule (C.runs s))
comes_of (works (each_of_a_b f)) s = C.items_of_c s 64 (λ i. f (C.item_a s i) (C.item_b s i))
comes_of (works (each_of_a f)) s = C.items_of_c s 64 (λ i. f (C.item_a s i))
comes_of (works (half_of_a f)) s = C.items_of_c s 32 (λ i. f (C.item_a s i))
comes_of (works moves) s = C.bytes_of_c s (C.byte_of s)

-- the list is the table's, line by line
abbrev as_line : Line → Does
as_line l = record { code = l.code; leaves = comes_of l.means }

as_in_the_table : map as_line table ≡ codes
as_in_the_table = refl

-- ---- an instruction that no check refuses

module _ (s : Before) (lent : right_length s.bytes ≡ true) (passes : verdict_of s.p s.word (C.named s) s.bytes ≡ 0) where
  abbrev L : ℕ
  L = 8 * s.bytes

  -- its code is listed, and is not the exit's
  not_ending : ends_kind (kind_for (meaning_in s.word)) ≡ false
  not_ending = go ((verdict_none s.p s.word (C.named s) s.bytes).0 passes)
    where
      listed : (f : Option Row) → found_in s.word ≡ f → row_says true (λ r. false) f ≡ false → eqb (code_in s.word) 0x09 ≡ false → ends_kind (kind_for (meaning_in s.word)) ≡ false
      listed (Some r) e h x = let i = its (code_in s.word) r e in ap ends_kind (sym i.kind) ∙ i.exit ∙ x
      listed None e h x = never h

      go : Passes (case_of s.p s.word (C.named s) s.bytes) checks → ends_kind (kind_for (meaning_in s.word)) ≡ false
      go (next _ (next h (next _ (next _ (next x _))))) = listed (found_in s.word) refl h x

  -- P does not wrap
  on : formed s.p (length_of s.word) ≡ C.past s
  on =
      let t = verdict_there s.p s.word (C.named s) s.bytes lent passes in
      let b = both_true (leb 8 s.bytes && leb s.bytes 65536) (eqb (s.bytes % 8) 0) lent in
      let k = leb-true s.bytes 65536 (both_true (leb 8 s.bytes) (leb s.bytes 65536) b.0).1 in
      mod-eq_of_lt (omega (arith, t, k))

  -- ---- one step

  gone : (b : Bool) (a : BitAddress) → next_p s.p (length_of s.word) (cond b (Some a) None) ≡ cond b a.0 (C.past s)
  gone true a = refl
  gone false a = on

  pub acts_as_listed : by_items s.word ≡ false → becomes (acts_of s.p s.word (C.named s) s.bytes s.memory s.registers s.flags) ≡ comes_of (meaning_in s.word) s
  unfolding by_items acts_of scalar_of branch_of taken_of
  acts_as_listed other = go (meaning_in s.word) refl other not_ending
    where
      go : (m : Meaning) → meaning_in s.word ≡ m → goes_by_items m ≡ false → ends_kind (kind_for m) ≡ false
          → becomes (done_by (outcome_in m s.word (C.named s) s.bytes s.memory) s.p (length_of s.word) s.bytes s.memory s.registers s.flags) ≡ comes_of m s
      go unlisted e h x = never x
      go exits e h x = never x
      go (acts (to_t f)) e h x = rw on
      go (acts (to_half_t f)) e h x = rw on
      go (acts loads_byte) e h x = rw (on, cleared _)
      go (acts loads_word) e h x = rw on
      go (acts stores_byte) e h x = rw (on, or_zero_r s.flags)
      go (acts stores_word) e h x = rw (on, or_zero_r s.flags)
      go (branches c) e h x = rw (e, gone _ (target_of (C.named s)), or_zero_r s.flags)
      go (works k) e h x = never h

  -- ---- item by item

  -- items of a shape of which it is known when each is stored and what is made for it
  module _ (sh : Shape) (stored : ℕ → Bool) (made : ℕ → Made ℕ)
      (stores : (i : ℕ) → stored_at sh L i s.memory ≡ stored i) (makes : (i : ℕ) → made_at sh L i s.memory ≡ made i) where
    abbrev value : ℕ → ℕ
    value i = cond (stored i) ((made i).item % 2 ^ sh.width) (C.bits_from s (sh.result + i * sh.width) sh.width)

    item_is : (i : ℕ) → item_at sh L i s.memory ≡ value i
    unfolding item_at
    item_is i = rw (stores i, makes i)

    value_lt : (i : ℕ) → value i < 2 ^ sh.width
    value_lt i = either (λ (v : ℕ). v < 2 ^ sh.width) (stored i) (mod-lt (made i).item (pow_pos sh.width)) (field_lt L (sh.result + i * sh.width) sh.width s.memory)

    in_turn_lem : (k : ℕ) → in_turn L sh.result sh.width (λ i y. value i) k s.memory ≡ C.items_in s sh.width sh.result stored made k
    in_turn_lem zero = refl
    in_turn_lem (suc k) = ap (store L (sh.result + k * sh.width) sh.width (value k)) (in_turn_lem k)

    beside : (k : ℕ) → side_by_side sh.width (item_at sh L) k s.memory ≡ side_by_side sh.width (λ i y. value i) k s.memory
    beside zero = refl
    beside (suc k) = ap₂ (λ (x y : ℕ). x * 2 ^ sh.width + y) (beside k) (item_is k)

    memory_is : (n : ℕ) → (0 < n → sh.result + n * sh.width ≤ L)
        → store L sh.result (n * sh.width) (side_by_side sh.width (item_at sh L) n s.memory) s.memory ≡ C.items_in s sh.width sh.result stored made n
    memory_is zero fits = rw zero-mul (store_none L sh.result s.memory)
    memory_is (suc n) fits =
        ap (λ (v : ℕ). store L sh.result (suc n * sh.width) v s.memory) (beside (suc n))
        ∙ sym (at_once L sh.result sh.width (suc n) (λ i y. value i) (fits (omega arith)) (λ i y. value_lt i) (λ i x y h k. refl) s.memory (suc n) (omega arith))
        ∙ in_turn_lem (suc n)

    flags_are : (n : ℕ) → flags_together sh L n s.memory s.flags ≡ C.flags_of s sh.width sh.result stored made n
    unfolding flags_at
    flags_are zero = refl
    flags_are (suc n) = rw (flags_are n, stores n, makes n)

    items_are : (n : ℕ) → (0 < n → sh.result + n * sh.width ≤ L)
        → becomes (leaving (whole sh L n (worked s.memory s.flags)).memory s.registers (C.past s) (whole sh L n (worked s.memory s.flags)).flags)
        ≡ C.to_items s sh.width sh.result stored made n
    items_are n fits = ap₂ (λ (m f : ℕ). becomes (leaving m s.registers (C.past s) f)) (memory_is n fits) (flags_are n)

  -- the places of a vector's sources and control bits
  source_is : (b : Bool) (d i : ℕ) → value_at L 64 (source_item (source_in b d) i) s.memory ≡ cond b d (C.bits_from s (place_of (low48 d) + i * 64) 64)
  source_is true d i = refl
  source_is false d i = refl

  stored_is : (i : ℕ) → eqb (value_at L 1 (control_bit (control_in s.word (C.Z s)) i) s.memory) (sense_of (control_in s.word (C.Z s))) ≡ C.stored s i
  stored_is i = go (eqb (field 64 48 8 s.word) 0) (g_bit 1 s.word)
    where
      go : (none turned : Bool)
          → eqb (value_at L 1 (control_bit (cond none None (Some (record { base = place_of (low48 (C.Z s)); ones = not turned }))) i) s.memory) (sense_of (cond none None (Some (record { base = place_of (low48 (C.Z s)); ones = not turned }))))
          ≡ none || eqb (C.bits_from s (place_of (low48 (C.Z s)) + i) 1) (cond turned 0 1)
      go true turned = refl
      go false true = refl
      go false false = refl

  bit_is : (t : SourceBit) → value_at L 1 (bit_of (place_of (low48 (C.R s))) (second_in (C.S s)) t) s.memory ≡ C.bit_of s t
  bit_is (of_r j) = refl
  bit_is (of_s j) = go (eqb (low48 (C.S s)) 0)
    where
      go : (none : Bool) → value_at L 1 (second_bit (cond none None (Some (place_of (low48 (C.S s))))) j) s.memory ≡ cond none 0 (C.bits_from s (place_of (low48 (C.S s)) + j) 1)
      go true = refl
      go false = refl

  byte_is : (i : ℕ) → value_at L 8 (byte_of (place_of (indexed Byte (C.A s) (C.X s)).0) (length_in (C.A s)) (field 64 40 8 s.word) i) s.memory ≡ C.byte_of s i
  byte_is i = go (ltb i (length_in (C.A s)))
    where
      go : (b : Bool) → value_at L 8 (cond b (bits (place_of (indexed Byte (C.A s) (C.X s)).0 + i * 8)) (fixed (field 64 40 8 s.word))) s.memory
          ≡ cond b (C.bits_from s (place_of (indexed Byte (C.A s) (C.X s)).0 + i * 8) 8) (field 64 40 8 s.word)
      go true = refl
      go false = refl

  pub works_as_listed : by_items s.word ≡ true
      → becomes (leaving (whole_of s.word (C.named s) s.bytes (count_of s.word (C.named s)) (worked s.memory s.flags)).memory s.registers (C.past s)
      (whole_of s.word (C.named s) s.bytes (count_of s.word (C.named s)) (worked s.memory s.flags)).flags)
      ≡ comes_of (meaning_in s.word) s
  unfolding by_items whole_of plan_of plan_in shape_of items_of stored_at made_at
  works_as_listed is = go (meaning_in s.word) is (λ some. (sound L (plan_of s.word (C.named s)) (accepted s.p s.word (C.named s) s.bytes is passes some)).fits)
    where
      go : (m : Meaning) → goes_by_items m ≡ true → (0 < items_of (plan_in m s.word (C.named s)) → (shape_of (plan_in m s.word (C.named s))).result + items_of (plan_in m s.word (C.named s)) * (shape_of (plan_in m s.word (C.named s))).width ≤ L)
          → becomes (leaving (whole (shape_of (plan_in m s.word (C.named s))) L (items_of (plan_in m s.word (C.named s))) (worked s.memory s.flags)).memory s.registers (C.past s)
          (whole (shape_of (plan_in m s.word (C.named s))) L (items_of (plan_in m s.word (C.named s))) (worked s.memory s.flags)).flags)
          ≡ comes_of m s
      go unlisted h fits = never (sym h)
      go exits h fits = never (sym h)
      go (acts a) h fits = never (sym h)
      go (branches c) h fits = never (sym h)
      go (works (gathers rule)) h fits =
          items_are (shape_of (plan_in (works (gathers rule)) s.word (C.named s))) (λ j. true) (λ j. plain (C.bit_of s (taken_by rule (C.runs s) j)))
          (λ j. refl) (λ j. ap plain (bit_is (taken_by rule (C.runs s) j))) (bit_items rule (C.runs s)) fits
      go (works (each_of_a_b f)) h fits =
          items_are (shape_of (plan_in (works (each_of_a_b f)) s.word (C.named s))) (C.stored s) (λ i. f (C.item_a s i) (C.item_b s i))
          stored_is (λ i. ap₂ f (source_is (g_bit 3 s.word) (C.A s) i) (source_is (g_bit 4 s.word) (C.B s) i)) (length_in (C.C s)) fits
      go (works (each_of_a f)) h fits =
          items_are (shape_of (plan_in (works (each_of_a f)) s.word (C.named s))) (C.stored s) (λ i. f (C.item_a s i))
          stored_is (λ i. ap f (source_is (g_bit 3 s.word) (C.A s) i)) (length_in (C.C s)) fits
      go (works (half_of_a f)) h fits =
          items_are (shape_of (plan_in (works (half_of_a f)) s.word (C.named s))) (C.stored s) (λ i. f (C.item_a s i))
          stored_is (λ i. ap f (source_is (g_bit 3 s.word) (C.A s) i)) (length_in (C.C s)) fits
      go (works moves) h fits =
          items_are (shape_of (plan_in (works moves) s.word (C.named s))) (λ i. true) (λ i. plain (C.byte_of s i))
          (λ i. refl) (λ i. ap plain (byte_is i)) (length_in (C.C s)) fits

-- ---- the list

-- an element of a list that was made of another's
made_of : {A B : Type 0} (f : A → B) (y : B) (xs : List A) → In y (map f xs) → (x : A) × (In x xs × (y ≡ f x))
made_of f y [] x' = elim x' [ ]
made_of f y (x ∷ xs) here = (x, (here, refl))
made_of f y (x ∷ xs) (there i) = let r = made_of f y xs i in (r.0, (there r.1.0, r.1.1))

-- a line says what comes of the meaning of its code
pub line_means : (l : Does) → In l codes → (w : ℕ) → code_in w ≡ l.code → (s : Before) → l.leaves s ≡ comes_of (meaning_in w) s
line_means l i w c s =
    let r = made_of as_line l table i in
    let m = (one_meaning r.0 r.1.0).1 in
    let k : code_in w ≡ r.0.code = c ∙ ap (λ (x : Does). x.code) r.1.1 in
    ap (λ (x : Does). x.leaves s) r.1.1 ∙ ap (λ (x : Meaning). comes_of x s) (sym (ap meaning_of k ∙ m))

-- 1 is said of the exit alone
pub exit_means : (p w : ℕ) (o : Operands) (n : ℕ) → verdict_of p w o n ≡ 1 → (meaning_in w ≡ exits) × (by_items w ≡ false)
unfolding verdict_of meaning_of by_items every
exit_means p w o n e =
    let before = check 4 not_in_memory ∷ word_checks in
    let m = ap meaning_of (eqb-true (code_in w) 0x09 (only_one 1 (omega arith) before (check 1 at_exit) field_checks (case_of p w o n) tt tt e)) in
    (m, ap goes_by_items m)
