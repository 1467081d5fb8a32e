-- What passes 8 to 11 is sound: each place that an item reads lies in memory and shares no bit with the result field, or is the item's own. So the result
-- spoils nothing that a later item reads.
use mathlib.Core.Path.{◌≡◌, refl, ap, ap₂}
use mathlib.Core.Logic.{inl, inr, ⊎_elim}
use mathlib.Core.Bool.{Bool, true, false, cond}
use Rattle.std.specs.Prelude.{Option, Some, None}
use Prim.Native.Nat.{ℕ, ◌+◌, ◌*◌, ◌≤◌, ◌<◌, min}
use native.Mathlib.Omega.{arith}
use borrow.Author.Tests.{ltb-true}
use lib.Dec.{ltb}
use Rattle.fields.specs.Field.{Apart}
use Rattle.fields.specs.Gathers.{SourceBit, of_r, of_s, past_r, past_s, furthest, bit_items}
use Rattle.fields.proofs.GatherMeaning.{r_covered, s_covered}
use Rattle.instructions.specs.declared.items.Source.{Source}
use Rattle.instructions.specs.declared.items.Source.TheVariants.{Field, Value}
use Rattle.instructions.specs.declared.items.Gated.{Gated}
use Rattle.numbers.specs.declared.flags.Made.{Made}
use Rattle.instructions.specs.Items.{Place, bits, fixed}
use Rattle.instructions.specs.Plan.{source_item, control_bit, vector_shape, taken_shape, second_bit, bit_of, byte_of, taken_by, Plan, vectors, bit_runs, byte_move, shape_of, items_of}
use Rattle.instructions.specs.Private.Accepted.{Away, SourcePasses, ControlPasses, SecondPasses, Accepted}
use Rattle.instructions.proofs.Agree.{Clear, Sound}

-- ---- vectors

source_clear : (L c w n i : ℕ) (a : Source) → i < n → SourcePasses L c w n a → Clear L c w n i 64 (source_item a i)
source_clear L c w n i (Field a) h k = (
  omega (arith, k.upto),
  ⊎_elim
      (λ d. inl (⊎_elim (λ l. inl (omega arith)) (λ r. inr (omega arith)) d))
      (λ e. inr (ap₂ ◌+◌ e.0 (ap (λ (u : ℕ). i * u) e.1), e.1))
      k.apart,
)
source_clear L c w n i (Value v) h k = tt

control_clear : (L c w n i : ℕ) (z : Option Gated) → i < n → ControlPasses L c w n z → Clear L c w n i 1 (control_bit z i)
control_clear L c w n i None h k = tt
control_clear L c w n i (Some z) h k = (omega arith, inl (⊎_elim (λ l. inl (omega arith)) (λ r. inr (omega arith)) k.1))

vector_sound : (L : ℕ) (a b : Source) (z : Option Gated) (c w n : ℕ) (g : ℕ → ℕ → Made ℕ) → c + n * w ≤ L
    → SourcePasses L c w n a → SourcePasses L c w n b → ControlPasses L c w n z → Sound L (vector_shape a b z c w g) n
vector_sound L a b z c w n g fits fa fb fz =
    record {
      fits = fits;
      clear = λ i h. record { one = source_clear L c w n i a h fa; two = source_clear L c w n i b h fb; bit = control_clear L c w n i z h fz };
    }

-- ---- bits and bytes: places in memory and apart from the result

abbrev pub Safe : ℕ → ℕ → ℕ → ℕ → Place → Type 0
Safe L c k n (bits a) = (a + n ≤ L) × Apart c k a n
Safe L c k n (fixed v) = Unit {0}

safe_clear : (L c w count i n : ℕ) (q : Place) → Safe L c (count * w) n q → Clear L c w count i n q
safe_clear L c w count i n (bits a) h = (h.0, inl h.1)
safe_clear L c w count i n (fixed v) h = tt

taken_sound : (L c w n : ℕ) (g : ℕ → Place) → c + n * w ≤ L → ((i : ℕ) → i < n → Safe L c (n * w) w (g i)) → Sound L (taken_shape c w g) n
taken_sound L c w n g fits h = record { fits = fits; clear = λ i l. record { one = safe_clear L c w n i w (g i) (h i l); two = tt; bit = tt } }

-- n bits, d bits into a field of e bits
part_safe : (L c k a e d n : ℕ) → Away L c k a e → d + n ≤ e → 0 < n → Safe L c k n (bits (a + d))
part_safe L c k a e d n h le hn = let q = h (omega arith) in (omega arith, ⊎_elim (λ l. inl (omega arith)) (λ r. inr (omega arith)) q.1)

second_safe : (L c n e d : ℕ) (b : Option ℕ) → SecondPasses L c n e b → d < e → Safe L c n 1 (second_bit b d)
second_safe L c n e d (Some b) h l = part_safe L c n b e d 1 h.1 (omega arith) (omega arith)
second_safe L c n e d None h l = tt

pub bit_safe : (L c n a : ℕ) (b : Option ℕ) (take : ℕ → SourceBit) (N i : ℕ) → i < N → Away L c n a (furthest (λ j. past_r (take j)) N) → SecondPasses L c n (furthest (λ j. past_s (take j)) N) b
    → Safe L c n 1 (bit_of a b (take i))
bit_safe L c n a b take N i h ha hb = go (take i) refl
  where
    go : (x : SourceBit) → take i ≡ x → Safe L c n 1 (bit_of a b x)
    go (of_r d) e = part_safe L c n a (furthest (λ j. past_r (take j)) N) d 1 ha (let l = r_covered take N i d h e in omega arith) (omega arith)
    go (of_s d) e = second_safe L c n (furthest (λ j. past_s (take j)) N) d b hb (s_covered take N i d h e)

byte_safe : (L c n a length fill i : ℕ) → i < n → Away L c (n * 8) a (min n length * 8) → Safe L c (n * 8) 8 (byte_of a length fill i)
byte_safe L c n a length fill i h k = go (ltb i length) refl
  where
    go : (t : Bool) → ltb i length ≡ t → Safe L c (n * 8) 8 (cond t (bits (a + i * 8)) (fixed fill))
    go true e = let l = ltb-true i length e in part_safe L c (n * 8) a (min n length * 8) (i * 8) 8 k (omega arith) (omega arith)
    go false e = tt

-- ---- every plan

pub sound : (L : ℕ) (p : Plan) → Accepted L p → Sound L (shape_of p) (items_of p)
unfolding shape_of items_of
sound L (vectors v w f) h = vector_sound L v.first v.second v.control v.result w v.items f h.upto h.first h.second h.control
sound L (bit_runs b) h =
    let N : ℕ = bit_items b.rule b.runs in
    taken_sound L b.result 1 N (λ j. bit_of b.first b.second (taken_by b.rule b.runs j)) (omega (arith, h.upto))
    (λ i l. let e : N * 1 ≡ N = omega arith in rw e (bit_safe L b.result N b.first b.second (taken_by b.rule b.runs) N i l h.first h.second))
sound L (byte_move v) h =
    taken_sound L v.result 8 v.items (byte_of v.source v.length v.fill) h.upto
    (λ i l. byte_safe L v.result v.items v.source v.length v.fill i l h.source)
