-- An accepted plan is ready for its loop, and what the loop says of plain numbers is what the plan's items are. One law for a family.
use mathlib.Core.Path.{◌≡◌, refl, sym, ap, ◌∙◌}
use mathlib.Core.Logic.{inl, inr, ⊎_elim}
use mathlib.Core.Bool.{Bool, true, false, cond}
use mathlib.Core.List.{List}
use Prim.Native.Nat.{ℕ, zero, suc, ◌+◌, ◌*◌, ◌%◌, ◌≤◌, ◌<◌}
use native.Mathlib.Nat.{mod-lt, mul-le-mul_right, div-add-mod'}
use Rattle.std.specs.Prelude.{Option, Some, None}
use native.Mathlib.Omega.{arith}
use borrow.Author.Tests.{lt-ltb, ltb-false, ne_eqb}
use lib.Dec.{eqb, ltb}
use lib.ListN.{length}
use Rattle.fields.specs.declared.gathers.Runs.{Runs}
use Rattle.fields.specs.Field.{Apart}
use Rattle.fields.specs.Gathers.{of_r, of_s, bit_items}
use Rattle.fields.specs.Bytes.{num, size}
use Rattle.fields.proofs.GatherMeaning.{compress_some, merge_some}
use Rattle.instructions.specs.declared.items.Source.{Source}
use Rattle.instructions.specs.declared.items.Source.TheVariants.{Field, Value}
use Rattle.instructions.specs.declared.items.Gated.{Gated}
use Rattle.instructions.specs.declared.items.VectorPlan.{VectorPlan}
use Rattle.fields.specs.declared.gathers.Rule.{Rule}
use Rattle.fields.specs.declared.gathers.Rule.TheVariants.{Compress, Merge, Mask}
use Rattle.instructions.specs.declared.items.BitPlan.{BitPlan}
use Rattle.instructions.specs.declared.items.MovePlan.{MovePlan}
use Rattle.numbers.specs.declared.flags.Made.{Made}
use Rattle.instructions.specs.Items.{Place, bits, fixed, worked}
use Rattle.instructions.specs.Plan.{taken_shape, bit_of, taken_by, vectors, bit_runs, byte_move, items_of, second_bit}
use Rattle.instructions.specs.Private.Accepted.{SourcePasses, ControlPasses, VectorPasses, BitsPass, MovePasses, Ready}
use Rattle.instructions.specs.Private.Loops.{SourceReach, ControlReach, PlanReach, period_of, cursor_at, woven_at, ReadyBits, ReadyBytes, TurnedQuietly, Turned, period_bits, weave_of, stands_at, gather_shape}
use Rattle.instructions.proofs.Turning.{alike}
use Rattle.instructions.proofs.Passing.{Safe, bit_safe}

-- ---- vectors

source_reach : (m : List ℕ) (c w n k : ℕ) (a : Source) → k ≤ n → SourcePasses (size m) c w n a → SourceReach m k a
source_reach m c w n k (Field a) l h = (h.whole, omega (arith, h.upto))
source_reach m c w n k (Value v) l h = tt

control_reach : (m : List ℕ) (c w n k : ℕ) (z : Option Gated) → k ≤ n → ControlPasses (size m) c w n z → ControlReach m k z
control_reach m c w n k None l h = tt
control_reach m c w n k (Some z) l h = omega (arith, h.0)

pub vector_ready : (m : List ℕ) (v : VectorPlan) (w n : ℕ) → length m ≤ 65536 → n ≤ v.items → VectorPasses (size m) w v → PlanReach m v w n
vector_ready m v w n hs hn h =
    let q : n * w ≤ v.items * w = mul-le-mul_right w hn in
    record {
      small = hs;
      first = source_reach m v.result w v.items n v.first hn h.first;
      second = source_reach m v.result w v.items n v.second hn h.second;
      control = control_reach m v.result w v.items n v.control hn h.control;
      whole = h.whole;
      upto = omega (arith, h.upto);
    }

-- ---- bits

-- the two ways to say which bit is taken, by the test that both make
either : (q none : Bool) (a x y d e : ℕ) (s : Option ℕ) → (q ≡ true → x ≡ a + d) → (q ≡ false → y ≡ e) → (q ≡ false → none ≡ false)
    → cond q (bits x) (second_bit (cond none None s) y) ≡ bit_of a s (cond q (of_r d) (of_s e))
either true none a x y d e s f g h = ap bits (f refl)
either false none a x y d e s f g h = rw (h refl, g refl) refl

-- past the head there is a tail
tailed : (i r s : ℕ) → 0 < r + s → ltb (i % (r + s)) r ≡ false → eqb s 0 ≡ false
tailed i r s h q = let l = ltb-false (i % (r + s)) r q in let k : i % (r + s) < r + s = mod-lt i h in ne_eqb s 0 (λ e. omega arith)

pub woven_is : (b : BitPlan) (i : ℕ) → 0 < period_bits (period_of b.rule b.runs) → woven_at (weave_of b) i ≡ bit_of b.first b.second (taken_by b.rule b.runs i)
unfolding cursor_at
woven_is b i h = go b.rule h
  where
    go : (k : Rule) → 0 < period_bits (period_of k b.runs)
        → stands_at (record { r = b.first; s = cond (eqb (period_of k b.runs).tail 0) None b.second; period = period_of k b.runs; to = b.result }) (cursor_at (record { r = b.first; s = cond (eqb (period_of k b.runs).tail 0) None b.second; period = period_of k b.runs; to = b.result }) i) ≡ bit_of b.first b.second (taken_by k b.runs i)
    go Compress h = let e : b.runs.r + 0 ≡ b.runs.r = omega arith in rw (e, lt-ltb (i % b.runs.r) b.runs.r (mod-lt i (omega arith))) (ap bits (omega arith))
    go Merge h =
        either (ltb (i % (b.runs.r + b.runs.s)) b.runs.r) _ b.first _ _ _ _ b.second (λ q. omega arith)
        (λ q. let l = ltb-false (i % (b.runs.r + b.runs.s)) b.runs.r q in omega arith) (tailed i b.runs.r b.runs.s h)
    go Mask h =
        let d = div-add-mod' i (b.runs.r + b.runs.s) in
        either (ltb (i % (b.runs.r + b.runs.s)) b.runs.r) _ b.first _ _ _ _ b.second (λ q. omega arith)
        (λ q. let l = ltb-false (i % (b.runs.r + b.runs.s)) b.runs.r q in omega arith) (tailed i b.runs.r b.runs.s h)

some_period : (k : Rule) (t : Runs) → 0 < bit_items k t → 0 < period_bits (period_of k t)
some_period Compress t h = omega (arith, compress_some t h)
some_period Merge t h = let q = merge_some t h in omega (arith, q.0)
some_period Mask t h = let q = merge_some t h in omega (arith, q.0)

-- where there is a second source there is a tail
tail_for : (n : ℕ) (s : Option ℕ) (b : ℕ) → cond (eqb n 0) None s ≡ Some b → 0 < n
tail_for zero s b e = let z : ◌≡◌ {A = ℕ} 0 1 = cc in absurd (omega arith)
tail_for (suc n) s b e = omega arith

narrower : (L c n N : ℕ) (q : Place) (a : ℕ) → n ≤ N → Safe L c N 1 q → q ≡ bits a → (a < L) × Apart c n a 1
narrower L c n N (bits x) a le h e = let z : x ≡ a = cc in rw (sym z) (omega (arith, h.0), ⊎_elim (λ l. inl (omega arith)) (λ r. inr (omega arith)) h.1)
narrower L c n N (fixed v) a le h e = let z : ◌≡◌ {A = ℕ} 0 1 = cc in absurd (omega arith)

pub bits_ready : (m : List ℕ) (b : BitPlan) (n : ℕ) → length m ≤ 65536 → length m % 8 ≡ 0 → 0 < n → n ≤ bit_items b.rule b.runs → BitsPass (size m) b → ReadyBits m (weave_of b) n
bits_ready m b n hs hw h0 hn h =
    let N : ℕ = bit_items b.rule b.runs in
    let some = some_period b.rule b.runs (omega arith) in
    record {
      small = hs;
      words = hw;
      upto_c = omega (arith, h.upto);
      some_bits = some;
      near_r = h.near;
      some_tail = tail_for (period_of b.rule b.runs).tail b.second;
      clear = λ i a l e. narrower (size m) b.result n N (bit_of b.first b.second (taken_by b.rule b.runs i)) a hn
          (bit_safe (size m) b.result N b.first b.second (taken_by b.rule b.runs) N i (omega arith) h.first h.second)
          (sym (woven_is b i some) ∙ e);
    }

pub bits_worked : (m : List ℕ) (b : BitPlan) (from n f : ℕ) (m' : List ℕ) → 0 < bit_items b.rule b.runs → TurnedQuietly (gather_shape b) from n m m'
    → Turned (taken_shape b.result 1 (λ j. bit_of b.first b.second (taken_by b.rule b.runs j))) from n m f m' f
bits_worked m b from n f m' h0 d =
    let t = d f in
    record {
      as_long = t.as_long;
      does = t.does
          ∙ alike b.result 1 (woven_at (weave_of b)) (λ j. bit_of b.first b.second (taken_by b.rule b.runs j)) (size m) from n (worked (num m) f)
          (λ j l. woven_is b (from + j) (some_period b.rule b.runs h0));
    }

-- ---- bytes

pub move_ready : (m : List ℕ) (v : MovePlan) (n : ℕ) → length m ≤ 65536 → n ≤ v.items → MovePasses (size m) v → ReadyBytes m v.source v.length v.result n
move_ready m v n hs hn h =
    record {
      small = hs;
      whole_a = h.whole_source;
      whole_c = h.whole;
      upto_a = λ l. omega (arith, (h.source (omega arith)).0);
      upto_c = omega (arith, h.upto);
    }

-- ---- a plan of each family that is ready, for n items of it and one at least

pub of_vector_lem : (m : List ℕ) (v : VectorPlan) (w : ℕ) (f : ℕ → ℕ → Made ℕ) (n : ℕ) → Ready m (vectors v w f) → n ≤ v.items → 0 < n → VectorPasses (size m) w v
unfolding items_of
of_vector_lem m v w f n h le h0 = h.accepted (omega arith)

pub of_bits_lem : (m : List ℕ) (b : BitPlan) (n : ℕ) → Ready m (bit_runs b) → n ≤ items_of (bit_runs b) → 0 < n → (n ≤ bit_items b.rule b.runs) × BitsPass (size m) b
unfolding items_of
of_bits_lem m b n h le h0 = (le, h.accepted (omega arith))

pub of_move : (m : List ℕ) (v : MovePlan) (n : ℕ) → Ready m (byte_move v) → n ≤ items_of (byte_move v) → 0 < n → (n ≤ v.items) × MovePasses (size m) v
unfolding items_of
of_move m v n h le h0 = (le, h.accepted (omega arith))
