-- An instruction that passes its checks may be worked: what the verdict says of the fields of a vector, bit or move instruction is what its loops ask of its plan.
-- Each field of the layout is the plan's place and the plan's items, so the law is one for each kind of field, and one for each family of instructions.
use mathlib.Core.Path.{◌≡◌, refl, sym, subst, ◌∙◌}
use mathlib.Core.Bool.{Bool, true, false, cond, not, ◌&&◌, ◌||◌}
use mathlib.Core.Logic.{◌⊎◌, inl, inr}
use mathlib.Core.List.{List}
use Rattle.std.specs.Prelude.{Some, None}
use Prim.Native.Nat.{ℕ, ◌+◌, ◌-◌, ◌*◌, ◌/◌, ◌%◌, ◌^◌, ◌≤◌, ◌<◌, min}
use native.Mathlib.Nat.{mod-lt}
use native.Mathlib.Omega.{arith}
use lib.Dec.{eqb, leb, lit<, lit≤}
use lib.ListN.{length}
use lib.Pow.{pow_pos}
use borrow.Author.Tests.{eqb-true, leb-true}
use Rattle.numbers.specs.Words.{low48}
use Rattle.fields.specs.declared.units.BitAddress.{BitAddress}
use Rattle.fields.specs.declared.extents.Unit as U
use Rattle.fields.specs.declared.extents.Unit.TheVariants.{Bit, Byte, HalfWord, Word}
use Rattle.fields.specs.declared.extents.Field as F
use Rattle.fields.specs.declared.gathers.Runs.{Runs}
use Rattle.fields.specs.Field.{field, Apart}
use Rattle.fields.specs.Memory.{right_length, AtByte}
use Rattle.fields.specs.Extents as E
use Rattle.fields.specs.Extents.{field_of, absent_field, aligned, inside, shares}
use Rattle.fields.specs.Gathers.{compress_takes, compress_items, merge_items, past_r, past_s, furthest}
use Rattle.fields.proofs.FieldMeaning.{all_bits, length_fits, inside_ends}
use Rattle.fields.proofs.Furthest.{at_most}
use Rattle.fields.proofs.GatherMeaning.{Lengths, extents_low, compress_few, merge_few}
use Rattle.instructions.specs.declared.operands.Operands.{Operands}
use Rattle.instructions.specs.declared.layout.Fields.{Fields}
use Rattle.fields.specs.declared.gathers.Rule.{Rule}
use Rattle.instructions.specs.Meanings.{to_t, to_half_t, loads_byte, loads_word, stores_byte, stores_word, Work, gathers, each_of_a_b, each_of_a, half_of_a, moves, Meaning, unlisted, exits, acts, branches, works, goes_by_items, kind_for}
use Rattle.instructions.specs.Operands.{meaning_in, g_bit, length_in, base_in, indexed, address_in}
use Rattle.instructions.specs.Layout.{source_of, control_of, result_of, vector_of, runs_of, zeros_of, compress_of, merge_of, mask_of, move_of, of_kind}
use Rattle.instructions.specs.Verdict.{clash, verdict_of}
use Rattle.instructions.specs.Plan.{items_of}
use Rattle.instructions.specs.Planned.{place_of, source_in, vector_in, bits_in, move_in, plan_by, plan_in}
use Rattle.instructions.specs.Private.Accepted.{Away, WordsPass, SourcePasses, ControlPasses, VectorPasses, SecondPasses, BitsPass, MovePasses, Accepted, Ready, AddressThereBy, AddressThere}
use Rattle.instructions.specs.Instruction.{by_items, plan_of}
use Rattle.instructions.proofs.VerdictTests.{never, both_true}
use Rattle.instructions.proofs.LayoutMade.{fields_mean}
use Rattle.instructions.proofs.VerdictMeaning.{placed, clear, Passed, verdict_passed}

-- a length has 16 bits, a base 48
length_few : (d : ℕ) → length_in d ≤ 65535
length_few d = let l = mod-lt (d / 2 ^ 48) (pow_pos 16) in omega arith

base_low : (d : ℕ) → low48 d < 2 ^ 48
base_low d = mod-lt d (pow_pos 48)

-- a field of so many items, few enough, has all their bits
has : (u : U.Unit) (b : BitAddress) (k : ℕ) → k ≤ 65535 → (field_of u b k).bits.0 ≡ k * E.width_of u
has u b k few = let f = length_fits u b k few in all_bits u b k (omega arith)

some_bits : (u : U.Unit) (b : BitAddress) (k : ℕ) → 0 < k → k ≤ 65535 → 0 < (field_of u b k).bits.0
some_bits Bit b k some few = let e = has Bit b k few in omega arith
some_bits Byte b k some few = let e = has Byte b k few in omega arith
some_bits HalfWord b k some few = let e = has HalfWord b k few in omega arith
some_bits Word b k some few = let e = has Word b k few in omega arith

-- bits, however many up to 2 ^ 47
has_bits : (b : BitAddress) (e : ℕ) → e < 2 ^ 47 → (field_of Bit b e).bits.0 ≡ e
has_bits b e l = all_bits Bit b e (omega arith) ∙ omega arith

-- ---- the fields of a vector: a result of k items of the unit u at c

module _ (u : U.Unit) (c k n : ℕ) (some : 0 < k) (few : k ≤ 65535) (in_memory : inside (field_of u (base_in c) k) n ≡ true) where
  words_pass : (d : ℕ) → aligned (field_of Word (base_in d) k) ≡ true → inside (field_of Word (base_in d) k) n ≡ true → clash (field_of u (base_in c) k) (field_of Word (base_in d) k) ≡ false
      → WordsPass (8 * n) (place_of (low48 c)) (E.width_of u) k (place_of (low48 d))
  words_pass d a i x =
      let hs = has Word (base_in d) k few in
      let hr = has u (base_in c) k few in
      let p = placed (field_of Word (base_in d) k) n (some_bits Word (base_in d) k some few) a i in
      let l = p.upto in
      let w = p.whole in
      record {
        whole = omega arith;
        upto = omega arith;
        apart = go (clear (field_of u (base_in c) k) (field_of Word (base_in d) k) n (some_bits u (base_in c) k some few) (some_bits Word (base_in d) k some few) in_memory i x);
      }
    where
      go : ((E.width_of u ≡ 64) × ((E.width_of Word ≡ 64) × (low48 c - 0x4000 ≡ low48 d - 0x4000))) ⊎ Apart (low48 c - 0x4000) (field_of u (base_in c) k).bits.0 (low48 d - 0x4000) (field_of Word (base_in d) k).bits.0
          → (Apart (place_of (low48 c)) (k * E.width_of u) (place_of (low48 d)) (k * 64)) ⊎ ((place_of (low48 d) ≡ place_of (low48 c)) × (64 ≡ E.width_of u))
      go (inl (wu, (_, e))) = inr (sym e, sym wu)
      go (inr q) = inl (rw (has u (base_in c) k few, has Word (base_in d) k few) at q)

  source_passes : (b : Bool) (d : ℕ) → aligned (cond b absent_field (field_of Word (base_in d) k)) ≡ true → inside (cond b absent_field (field_of Word (base_in d) k)) n ≡ true
      → clash (field_of u (base_in c) k) (cond b absent_field (field_of Word (base_in d) k)) ≡ false → SourcePasses (8 * n) (place_of (low48 c)) (E.width_of u) k (source_in b d)
  source_passes true d a i x = tt
  source_passes false d a i x = words_pass d a i x

  not_shared : (f : F.Field) → shares (field_of u (base_in c) k) f ≡ false → clash (field_of u (base_in c) k) f ≡ false
  not_shared f e = rw e

  control_passes : (b : Bool) (z : ℕ) (ones : Bool) → inside (cond b absent_field (field_of Bit (base_in z) k)) n ≡ true → shares (field_of u (base_in c) k) (cond b absent_field (field_of Bit (base_in z) k)) ≡ false
      → ControlPasses (8 * n) (place_of (low48 c)) (E.width_of u) k (cond b None (Some (record { base = place_of (low48 z); ones = ones })))
  control_passes true z ones i x = tt
  control_passes false z ones i x =
      let hz = has Bit (base_in z) k few in
      let p = inside_ends (field_of Bit (base_in z) k) n (some_bits Bit (base_in z) k some few) i in
      let l = p.1 in (
        omega arith,
        go (clear (field_of u (base_in c) k) (field_of Bit (base_in z) k) n (some_bits u (base_in c) k some few) (some_bits Bit (base_in z) k some few) in_memory i (not_shared (field_of Bit (base_in z) k) x)),
      )
    where
      go : ((E.width_of u ≡ 64) × ((E.width_of Bit ≡ 64) × (low48 c - 0x4000 ≡ low48 z - 0x4000))) ⊎ Apart (low48 c - 0x4000) (field_of u (base_in c) k).bits.0 (low48 z - 0x4000) (field_of Bit (base_in z) k).bits.0
          → Apart (place_of (low48 c)) (k * E.width_of u) (place_of (low48 z)) k
      go (inl (_, (e, _))) = absurd (omega arith)
      go (inr q) = let e : k * 1 ≡ k = omega arith in rw (has u (base_in c) k few, has Bit (base_in z) k few, e) at q

-- a multiple of a word or a half word is one of a byte
whole_bytes : (u : U.Unit) (a : ℕ) → E.width_of u ≡ 64 ⊎ E.width_of u ≡ 32 → a % E.width_of u ≡ 0 → a % 8 ≡ 0
whole_bytes Bit a (inl e) w = absurd (omega arith)
whole_bytes Bit a (inr e) w = absurd (omega arith)
whole_bytes Byte a e w = w
whole_bytes HalfWord a e w = omega arith
whole_bytes Word a e w = omega arith

-- 83, 87, 8A, 90 to 92, 96 to 98
vector_accepted : (w : ℕ) (o : Operands) (n : ℕ) (u : U.Unit) (alone : Bool) → E.width_of u ≡ 64 ⊎ E.width_of u ≡ 32 → Passed (vector_of w o (result_of u o) alone) n → 0 < length_in o.c
    → VectorPasses (8 * n) (E.width_of u) (vector_in alone w o)
unfolding vector_of source_of control_of
vector_accepted w o n u alone ws p some =
    let few = length_few o.c in
    let r = placed (result_of u o) n (some_bits u (base_in o.c) (length_in o.c) some few) p.result_aligned p.result_inside in
    let h = has u (base_in o.c) (length_in o.c) few in
    let l = r.upto in
    record {
      whole = whole_bytes u (place_of (low48 o.c)) ws r.whole;
      upto = omega arith;
      first = source_passes u o.c (length_in o.c) n some few p.result_inside (g_bit 3 w) o.a p.first_aligned p.first_inside p.first_clear;
      second = source_passes u o.c (length_in o.c) n some few p.result_inside (alone || g_bit 4 w) o.b p.second_aligned p.second_inside p.second_clear;
      control = control_passes u o.c (length_in o.c) n some few p.result_inside (eqb (field 64 48 8 w) 0) o.z (not (g_bit 1 w)) p.control_inside p.control_clear;
    }

-- ---- bit fields: a result of k bits at c

module _ (c k n : ℕ) (some : 0 < k) (few : k ≤ 65535) (in_memory : inside (field_of Bit (base_in c) k) n ≡ true) where
  bits_away : (d e : ℕ) → e < 2 ^ 47 → inside (field_of Bit (base_in d) e) n ≡ true → clash (field_of Bit (base_in c) k) (field_of Bit (base_in d) e) ≡ false
      → Away (8 * n) (place_of (low48 c)) k (place_of (low48 d)) e
  bits_away d e small i x there =
      let hs = has_bits (base_in d) e small in
      let here : 0 < (field_of Bit (base_in d) e).bits.0 = omega arith in
      let p = inside_ends (field_of Bit (base_in d) e) n here i in
      let l = p.1 in
      let a = p.0 in (
        omega arith,
        go (clear (field_of Bit (base_in c) k) (field_of Bit (base_in d) e) n (some_bits Bit (base_in c) k some few) here in_memory i x),
      )
    where
      go : ((E.width_of Bit ≡ 64) × ((E.width_of Bit ≡ 64) × (low48 c - 0x4000 ≡ low48 d - 0x4000))) ⊎ Apart (low48 c - 0x4000) (field_of Bit (base_in c) k).bits.0 (low48 d - 0x4000) (field_of Bit (base_in d) e).bits.0
          → Apart (place_of (low48 c)) k (place_of (low48 d)) e
      go (inl (q, _)) = absurd (omega arith)
      go (inr q) = let f : k < 2 ^ 47 = omega arith in rw (has_bits (base_in c) k f, has_bits (base_in d) e small) at q

  second_away : (d e : ℕ) → e < 2 ^ 47 → (b : Bool) → inside (cond b absent_field (field_of Bit (base_in d) e)) n ≡ true → clash (field_of Bit (base_in c) k) (cond b absent_field (field_of Bit (base_in d) e)) ≡ false
      → SecondPasses (8 * n) (place_of (low48 c)) k e (cond b None (Some (place_of (low48 d))))
  second_away d e small true i x = tt
  second_away d e small false i x = let l = base_low d in (omega arith, bits_away d e small i x)

  bits_upto : place_of (low48 c) + k ≤ 8 * n
  bits_upto =
      let h = has Bit (base_in c) k few in
      let p = inside_ends (field_of Bit (base_in c) k) n (some_bits Bit (base_in c) k some few) in_memory in
      let l = p.1 in
      let a = p.0 in
      omega arith

lengths : (o : Operands) → Lengths (runs_of o)
lengths o =
    let a = length_few o.g in
    let b = length_few o.x in
    let c = length_few o.a in
    record { r_fits = omega arith; s_fits = omega arith; n_fits = omega arith }

-- nothing of S is read by a compress
compress_s : (t : Runs) (n : ℕ) → furthest (λ j. past_s (compress_takes t j)) n ≡ 0
compress_s t n = let l = at_most (λ j. past_s (compress_takes t j)) n 0 (λ j h. omega arith) in omega arith

-- 14, 15 and 16: the extents of the layout are the plan's
compress_accepted : (o : Operands) (n : ℕ) → Passed (compress_of o) n → 0 < compress_items (runs_of o) → BitsPass (8 * n) (bits_in Rule.Compress o)
compress_accepted o n p some =
    let t = runs_of o in
    let few : compress_items t ≤ 65535 = let a = length_few o.a in let b = compress_few t in omega arith in
    let low = extents_low t (lengths o) in
    let small : furthest (λ j. past_r (compress_takes t j)) (compress_items t) < 2 ^ 47 = let l = low.0 in omega arith in
    let l = base_low o.g in
    record {
      upto = bits_upto o.a (compress_items t) n some few p.result_inside;
      near = omega arith;
      first = bits_away o.a (compress_items t) n some few p.result_inside o.g _ small p.first_inside p.first_clear;
      second = unread (eqb (low48 o.x) 0);
    }
  where
    unread : (b : Bool) → SecondPasses (8 * n) (place_of (low48 o.a)) (compress_items (runs_of o)) (furthest (λ j. past_s (compress_takes (runs_of o) j)) (compress_items (runs_of o))) (cond b None (Some (place_of (low48 o.x))))
    unread true = tt
    unread false =
        let l = base_low o.x in
        let e = compress_s (runs_of o) (compress_items (runs_of o)) in
        (omega arith, λ there. absurd (omega arith))

merge_accepted : (o : Operands) (n : ℕ) → Passed (merge_of o) n → 0 < merge_items (runs_of o) → BitsPass (8 * n) (bits_in Rule.Merge o)
unfolding zeros_of
merge_accepted o n p some =
    let t = runs_of o in
    let few : merge_items t ≤ 65535 = let a = length_few o.a in let b = merge_few t in omega arith in
    let low = extents_low t (lengths o) in
    let l = base_low o.g in
    let r = low.1.0 in
    let s = low.1.1.0 in
    record {
      upto = bits_upto o.a (merge_items t) n some few p.result_inside;
      near = omega arith;
      first = bits_away o.a (merge_items t) n some few p.result_inside o.g _ (omega arith) p.first_inside p.first_clear;
      second = second_away o.a (merge_items t) n some few p.result_inside o.x _ (omega arith) (eqb (low48 o.x) 0) p.second_inside p.second_clear;
    }

mask_accepted : (o : Operands) (n : ℕ) → Passed (mask_of o) n → 0 < merge_items (runs_of o) → BitsPass (8 * n) (bits_in Rule.Mask o)
unfolding zeros_of
mask_accepted o n p some =
    let t = runs_of o in
    let few : merge_items t ≤ 65535 = let a = length_few o.a in let b = merge_few t in omega arith in
    let low = extents_low t (lengths o) in
    let l = base_low o.g in
    let r = low.1.1.1.0 in
    let s = low.1.1.1.1 in
    record {
      upto = bits_upto o.a (merge_items t) n some few p.result_inside;
      near = omega arith;
      first = bits_away o.a (merge_items t) n some few p.result_inside o.g _ (omega arith) p.first_inside p.first_clear;
      second = second_away o.a (merge_items t) n some few p.result_inside o.x _ (omega arith) (eqb (low48 o.x) 0) p.second_inside p.second_clear;
    }

-- F8
move_accepted : (w : ℕ) (o : Operands) (n : ℕ) → Passed (move_of o) n → 0 < length_in o.c → MovePasses (8 * n) (move_in w o)
move_accepted w o n p some =
    let a = indexed Byte o.a o.x in
    let c = indexed Byte o.c o.z in
    let k = length_in o.c in
    let e = min (length_in o.a) k in
    let few = length_few o.c in
    let fewer : e ≤ 65535 = omega arith in
    let hc = has Byte c k few in
    let ha = has Byte a e fewer in
    let r = placed (field_of Byte c k) n (some_bits Byte c k some few) p.result_aligned p.result_inside in
    let rl = r.upto in
    record {
      whole = r.whole;
      upto = omega arith;
      whole_source = λ there. (placed (field_of Byte a e) n (some_bits Byte a e (omega arith) fewer) p.first_aligned p.first_inside).whole;
      source = λ there. away (omega arith);
    }
  where
    away : 0 < min (length_in o.a) (length_in o.c) → (place_of (indexed Byte o.a o.x).0 + min (length_in o.c) (length_in o.a) * 8 ≤ 8 * n) × Apart (place_of (indexed Byte o.c o.z).0) (length_in o.c * 8) (place_of (indexed Byte o.a o.x).0) (min (length_in o.c) (length_in o.a) * 8)
    away there =
        let a = indexed Byte o.a o.x in
        let c = indexed Byte o.c o.z in
        let k = length_in o.c in
        let e = min (length_in o.a) k in
        let few = length_few o.c in
        let fewer : e ≤ 65535 = omega arith in
        let ha = has Byte a e fewer in
        let q = placed (field_of Byte a e) n (some_bits Byte a e there fewer) p.first_aligned p.first_inside in
        let l = q.upto in
        let m : min k (length_in o.a) ≡ e = omega arith in
        rw m (omega arith, go (clear (field_of Byte c k) (field_of Byte a e) n (some_bits Byte c k some few) (some_bits Byte a e there fewer) p.result_inside p.first_inside p.first_clear))
      where
        go : ((E.width_of Byte ≡ 64) × ((E.width_of Byte ≡ 64) × ((indexed Byte o.c o.z).0 - 0x4000 ≡ (indexed Byte o.a o.x).0 - 0x4000)))
            ⊎ Apart ((indexed Byte o.c o.z).0 - 0x4000) (field_of Byte (indexed Byte o.c o.z) (length_in o.c)).bits.0 ((indexed Byte o.a o.x).0 - 0x4000) (field_of Byte (indexed Byte o.a o.x) (min (length_in o.a) (length_in o.c))).bits.0
            → Apart (place_of (indexed Byte o.c o.z).0) (length_in o.c * 8) (place_of (indexed Byte o.a o.x).0) (min (length_in o.a) (length_in o.c) * 8)
        go (inl (q, _)) = absurd (omega arith)
        go (inr q) =
            let few = length_few o.c in
            let fewer : min (length_in o.a) (length_in o.c) ≤ 65535 = omega arith in
            rw (has Byte (indexed Byte o.c o.z) (length_in o.c) few, has Byte (indexed Byte o.a o.x) (min (length_in o.a) (length_in o.c)) fewer) at q

-- ---- by the meaning

by_work : (k : Work) (w : ℕ) (o : Operands) (n : ℕ) → Passed (of_kind (kind_for (works k)) w o) n → 0 < items_of (plan_by k w o) → Accepted (8 * n) (plan_by k w o)
unfolding of_kind items_of
by_work (gathers Rule.Compress) w o n p some = compress_accepted o n p some
by_work (gathers Rule.Merge) w o n p some = merge_accepted o n p some
by_work (gathers Rule.Mask) w o n p some = mask_accepted o n p some
by_work (each_of_a_b f) w o n p some = vector_accepted w o n Word false (inl refl) p some
by_work (each_of_a f) w o n p some = vector_accepted w o n Word true (inl refl) p some
by_work (half_of_a f) w o n p some = vector_accepted w o n HalfWord true (inr refl) p some
by_work moves w o n p some = move_accepted w o n p some

-- what a word that no check refuses passes, by what its function means
meant_passes : (p w : ℕ) (o : Operands) (n : ℕ) → verdict_of p w o n ≡ 0 → Passed (of_kind (kind_for (meaning_in w)) w o) n
meant_passes p w o n passes = subst (λ (f : Fields). Passed f n) (fields_mean w o) (verdict_passed p w o n passes)

-- a vector, bit or move instruction that no check refuses is accepted
pub accepted : (p w : ℕ) (o : Operands) (n : ℕ) → by_items w ≡ true → verdict_of p w o n ≡ 0 → 0 < items_of (plan_of w o) → Accepted (8 * n) (plan_of w o)
unfolding by_items plan_of plan_in
accepted p w o n is passes some = go (meaning_in w) is (meant_passes p w o n passes) some
  where
    go : (m : Meaning) → goes_by_items m ≡ true → Passed (of_kind (kind_for m) w o) n → 0 < items_of (plan_in m w o) → Accepted (8 * n) (plan_in m w o)
    go unlisted is q some = never (sym is)
    go exits is q some = never (sym is)
    go (acts a) is q some = never (sym is)
    go (branches c) is q some = never (sym is)
    go (works k) is q some = by_work k w o n q some

-- .. and may be worked
pub ready : (m : List ℕ) (p w : ℕ) (o : Operands) → right_length (length m) ≡ true → by_items w ≡ true → verdict_of p w o (length m) ≡ 0 → Ready m (plan_of w o)
ready m p w o right is passes =
    let a = both_true (leb 8 (length m) && leb (length m) 65536) (eqb (length m % 8) 0) right in
    let b = both_true (leb 8 (length m)) (leb (length m) 65536) a.0 in
    record { small = leb-true (length m) 65536 b.1; whole = eqb-true (length m % 8) 0 a.1; accepted = accepted p w o (length m) is passes }

-- ---- the address of a load or a store

-- a byte or a word that passes 8 and 10 lies in memory and begins with a byte
byte_there : (m : List ℕ) (a : BitAddress) → aligned (field_of Byte a 1) ≡ true → inside (field_of Byte a 1) (length m) ≡ true → AtByte m a.0 8
byte_there m a al i =
    let h = has Byte a 1 (lit≤ tt) in
    let p = placed (field_of Byte a 1) (length m) (some_bits Byte a 1 (lit< tt) (lit≤ tt)) al i in
    let f = p.from in
    let l = p.upto in
    let w = p.whole in
    record { from = f; upto = omega arith; whole = omega arith }

word_there : (m : List ℕ) (a : BitAddress) → aligned (field_of Word a 1) ≡ true → inside (field_of Word a 1) (length m) ≡ true → AtByte m a.0 64
word_there m a al i =
    let h = has Word a 1 (lit≤ tt) in
    let p = placed (field_of Word a 1) (length m) (some_bits Word a 1 (lit< tt) (lit≤ tt)) al i in
    let f = p.from in
    let l = p.upto in
    let w = p.whole in
    record { from = f; upto = omega arith; whole = omega arith }

-- the address of a load or a store that no check refuses lies in memory
pub reached : (m : List ℕ) (p w : ℕ) (o : Operands) → verdict_of p w o (length m) ≡ 0 → AddressThere w o m
unfolding AddressThere of_kind
reached m p w o passes = go (meaning_in w) (meant_passes p w o (length m) passes)
  where
    go : (k : Meaning) → Passed (of_kind (kind_for k) w o) (length m) → AddressThereBy k o m
    go unlisted q = tt
    go exits q = tt
    go (acts (to_t f)) q = tt
    go (acts (to_half_t f)) q = tt
    go (acts loads_byte) q = byte_there m (address_in Byte o) q.first_aligned q.first_inside
    go (acts loads_word) q = word_there m (address_in Word o) q.first_aligned q.first_inside
    go (acts stores_byte) q = byte_there m (address_in Byte o) q.result_aligned q.result_inside
    go (acts stores_word) q = word_there m (address_in Word o) q.result_aligned q.result_inside
    go (branches c) q = tt
    go (works k) q = tt
