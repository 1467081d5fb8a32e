-- Bits by the run. A cursor goes on by runs as by items; the items of a run stand side by side in one source, and are one field of it, stored at once.
use mathlib.Core.Path.{◌≡◌, refl, sym, ap, ap₂, ◌∙◌}
use mathlib.Core.Logic.{inl, inr, ⊎_elim}
use mathlib.Core.Bool.{Bool, true, false, cond}
use mathlib.Core.List.{List}
use Rattle.std.specs.Prelude.{Option, Some, None}
use Prim.Native.Nat.{ℕ, zero, suc, ◌+◌, ◌-◌, ◌*◌, ◌/◌, ◌%◌, ◌^◌, ◌≤◌, ◌<◌, min}
use native.Mathlib.Nat.{mod-lt, mod-eq_of_lt, add-mul, div-add-mod', div-le_self, eq-or-lt_of_le, mul-le-mul}
use Rattle.std.proofs.lemmas.Nat.{div-mul-add, mod-mul-add}
use native.Mathlib.Omega.{arith}
use borrow.Author.Tests.{lt-ltb, le-ltb, eq-eqb, ne_eqb, ltb-true, ltb-false}
use lib.Dec.{ltb}
use lib.Bits.{or_zero_r}
use lib.ListN.{length}
use lib.Pow.{pow_pos}
use Rattle.numbers.proofs.Integers.{le_or_lt}
use Rattle.fields.specs.Field.{field, store, Apart}
use Rattle.fields.specs.Bytes.{num, size}
use Rattle.fields.specs.Memory.{Kept}
use Rattle.fields.proofs.Places.{field_lt, field_other, field_join, store_join, field_none, store_none}
use Rattle.instructions.specs.declared.bitruns.Cursor.{Cursor}
use Rattle.instructions.specs.declared.bitruns.Weave.{Weave}
use Rattle.instructions.specs.Items.{Place, bits, fixed, value_at, stored_at, made_at, item_at, flags_at, worked, turn, turns}
use Rattle.instructions.specs.Plan.{taken_shape, second_bit}
use Rattle.instructions.specs.Private.Loops.{period_bits, cursor_at, cursor_on, left_at, woven_at, woven_shape, Room, RoomFor, ReadyBits}
use Rattle.instructions.proofs.Agree.{resume}

-- ---- the cursor

pub within : (i p k : ℕ) → i % p + k < p → ((i + k) / p ≡ i / p) × ((i + k) % p ≡ i % p + k)
within i p k h =
    let e : i + k ≡ i / p * p + (i % p + k) = omega (arith, div-add-mod' i p) in
    (ap (λ (y : ℕ). y / p) e ∙ div-mul-add (i / p) p (i % p + k) h, ap (λ (y : ℕ). y % p) e ∙ mod-mul-add (i / p) p (i % p + k) h)

pub past : (i p k : ℕ) → 0 < p → i % p + k ≡ p → ((i + k) / p ≡ i / p + 1) × ((i + k) % p ≡ 0)
past i p k hp h =
    let e : i + k ≡ (i / p + 1) * p + 0 = omega (arith, div-add-mod' i p, add-mul (i / p) 1 p) in
    (ap (λ (y : ℕ). y / p) e ∙ div-mul-add (i / p + 1) p 0 hp, ap (λ (y : ℕ). y % p) e ∙ mod-mul-add (i / p + 1) p 0 hp)

cursor : ℕ → ℕ → ℕ → Cursor
cursor q r s = record { place = q; r = r; s = s }

three : {q q' r r' s s' : ℕ} → q ≡ q' → r ≡ r' → s ≡ s' → cursor q r s ≡ cursor q' r' s'
three e f g = cc

one_more : (a t x : ℕ) → (a + t * x) + x ≡ a + (t + 1) * x
one_more a t x = omega (arith, add-mul t 1 x)

pub cursor_on_lem : (w : Weave) (i n : ℕ) → 0 < period_bits w.period → i % period_bits w.period + n ≤ period_bits w.period → cursor_on (cursor_at w i) w.period n ≡ cursor_at w (i + n)
unfolding cursor_at cursor
cursor_on_lem w i n hp h =
    ⊎_elim
    (λ (e : i % period_bits w.period + n ≡ period_bits w.period). let k = past i (period_bits w.period) n hp e in
    rw (eq-eqb (i % period_bits w.period + n) (period_bits w.period) e, k.0, k.1) (three refl (one_more w.r (i / period_bits w.period) w.period.first) (one_more w.period.over (i / period_bits w.period) w.period.second)))
    (λ (l : i % period_bits w.period + n < period_bits w.period). let k = within i (period_bits w.period) n l in
    rw (ne_eqb (i % period_bits w.period + n) (period_bits w.period) (λ e. omega arith), k.0, k.1) refl)
    (eq-or-lt_of_le h)

product : (t x : ℕ) → t ≤ 524288 → x < 2 ^ 32 → t * x < 2 ^ 52
product t x h k = let l : t * x ≤ 524288 * 4294967296 = mul-le-mul {n₁ = t} {m₁ = x} {n₂ = 524288} {m₂ = 4294967296} h (omega arith) in omega arith

-- what the cursor's numbers come to
pub place_lt : (w : Weave) (i : ℕ) → 0 < period_bits w.period → (cursor_at w i).place < period_bits w.period
unfolding cursor_at
place_lt w i hp = mod-lt i hp

pub near : (w : Weave) (i : ℕ) → i ≤ 524288 → w.r < 2 ^ 48 → w.period.first < 2 ^ 32 → w.period.second < 2 ^ 32 → w.period.over < 2 ^ 32 → ((cursor_at w i).r < 2 ^ 53) × ((cursor_at w i).s < 2 ^ 53)
unfolding cursor_at
near w i hi hr hf hs ho =
    let t : i / period_bits w.period ≤ 524288 = omega (arith, div-le_self i (period_bits w.period)) in
    (omega (arith, product (i / period_bits w.period) w.period.first t hf), omega (arith, product (i / period_bits w.period) w.period.second t hs))

-- ---- the places of a run

abbrev pub along : Place → ℕ → Place
along (bits a) j = bits (a + j)
along (fixed v) j = fixed v

-- bits of S one after another
pub second_along : (o : Option ℕ) (a b j : ℕ) → a ≡ b + j → second_bit o a ≡ along (second_bit o b) j
second_along (Some s) a b j e = ap bits (omega arith)
second_along None a b j e = refl

pub run_places : (w : Weave) (i n j : ℕ) → 0 < period_bits w.period → n ≤ left_at (cursor_at w i) w.period → j < n → woven_at w (i + j) ≡ along (woven_at w i) j
unfolding cursor_at
run_places w i n j hp hn hj = go (ltb (i % period_bits w.period) w.period.head) refl hn
  where
    go : (b : Bool) → ltb (i % period_bits w.period) w.period.head ≡ b → n ≤ cond b (w.period.head - i % period_bits w.period) (period_bits w.period - i % period_bits w.period)
        → woven_at w (i + j)
        ≡ along (cond b (bits (w.r + i / period_bits w.period * w.period.first + i % period_bits w.period)) (second_bit w.s (w.period.over + i / period_bits w.period * w.period.second + (i % period_bits w.period - w.period.head)))) j
    go true e l =
        let k = within i (period_bits w.period) j (omega arith) in
        rw (k.0, k.1, lt-ltb (i % period_bits w.period + j) w.period.head (omega arith)) (ap bits (omega arith))
    go false e l =
        let f : w.period.head ≤ i % period_bits w.period = ltb-false (i % period_bits w.period) w.period.head e in
        let k = within i (period_bits w.period) j (omega arith) in
        rw (k.0, k.1, le-ltb (i % period_bits w.period + j) w.period.head (omega arith)) (second_along w.s _ _ j (omega arith))

-- ---- a run lies in memory and apart from the result

abbrev pub Runs : ℕ → ℕ → ℕ → ℕ → Place → Type 0
Runs L c i n (bits a) = (a + n ≤ L) × Apart (c + i) n a n
Runs L c i n (fixed v) = v ≡ 0

run_apart : (L c N a i n : ℕ) → 0 < n → i + n ≤ N → ((j : ℕ) → j < n → (a + j < L) × Apart c N (a + j) 1) → (a + n ≤ L) × Apart (c + i) n a n
run_apart L c N a i n hn le h =
    let z = h (n - 1) (omega arith) in (
      omega arith,
      ⊎_elim
          (λ (l : a + n ≤ c). inr (omega arith))
          (λ (l : c < a + n). ⊎_elim
          (λ (l' : c + N ≤ a). inl (omega arith))
          (λ (l' : a < c + N). absurd (hit l l'))
          (le_or_lt (c + N) a))
          (le_or_lt (a + n) c),
    )
  where
    no : (b : ℕ) → c ≤ b → b < c + N → Apart c N b 1 → ⊥
    no b l l' d = ⊎_elim (λ e. omega arith) (λ e. omega arith) d

    hit : c < a + n → a < c + N → ⊥
    hit l l' =
        ⊎_elim
        (λ (k : c ≤ a). let z = h 0 (omega arith) in no (a + 0) (omega arith) (omega arith) z.1)
        (λ (k : a < c). let z = h (c - a) (omega arith) in no (a + (c - a)) (omega arith) (omega arith) z.1)
        (le_or_lt c a)

module _ (m₀ : List ℕ) (w : Weave) (N i n : ℕ) (h : ReadyBits m₀ w N) (hn : 0 < n) (le : i + n ≤ N) (hl : n ≤ left_at (cursor_at w i) w.period) where
  pub places : (j : ℕ) → j < n → woven_at w (i + j) ≡ along (woven_at w i) j
  places j hj = run_places w i n j h.some_bits hl hj

  pub stands_clear : Runs (size m₀) w.to i n (woven_at w i)
  stands_clear = go (woven_at w i) refl
    where
      zero_fixed : (v : ℕ) → woven_at w i ≡ fixed v → v ≡ 0
      zero_fixed v e = one (ltb (cursor_at w i).place w.period.head) w.s e
        where
          one : (t : Bool) (o : Option ℕ) → cond t (bits ((cursor_at w i).r + (cursor_at w i).place)) (second_bit o ((cursor_at w i).s + ((cursor_at w i).place - w.period.head))) ≡ fixed v → v ≡ 0
          one true o e = let z : ◌≡◌ {A = ℕ} 0 1 = cc in absurd (omega arith)
          one false (Some s) e = let z : ◌≡◌ {A = ℕ} 0 1 = cc in absurd (omega arith)
          one false None e = cc

      go : (q : Place) → woven_at w i ≡ q → Runs (size m₀) w.to i n q
      go (bits a) e = run_apart (size m₀) w.to N a i n hn le (λ j hj. h.clear (i + j) (a + j) (omega arith) (places j hj ∙ ap (λ (q : Place). along q j) e))
      go (fixed v) e = zero_fixed v e

-- ---- a run of items is one field

-- v j is the first j bits of the run
pub run_by : (L c from x f : ℕ) (g : ℕ → Place) (n : ℕ) (v : ℕ → ℕ) → v 0 ≡ 0 → ((j : ℕ) → v j < 2 ^ j) → c + (from + n) ≤ L
    → ((j : ℕ) → j < n → value_at L 1 (g (from + j)) (store L (c + from) j (v j) x) < 2)
    → ((j : ℕ) → j < n → v j * 2 ^ 1 + value_at L 1 (g (from + j)) (store L (c + from) j (v j) x) ≡ v (j + 1))
    → turns (taken_shape c 1 g) L from n (worked x f) ≡ worked (store L (c + from) n (v n) x) f
unfolding item_at flags_at stored_at made_at
run_by L c from x f g zero v v0 hv le small step = ap (λ (y : ℕ). worked y f) (sym (ap (λ (q : ℕ). store L (c + from) 0 q x) v0 ∙ store_none L (c + from) x))
run_by L c from x f g (suc n) v v0 hv le small step =
    let y : ℕ = store L (c + from) n (v n) x in
    let b : ℕ = value_at L 1 (g (from + n)) y in
    let hb : b < 2 ^ 1 = small n (omega arith) in
    let ec : c + (from + n) * 1 ≡ (c + from) + n = omega arith in
    let en : n + 1 ≡ suc n = omega arith in
    ap (turn (taken_shape c 1 g) L (from + n)) (run_by L c from x f g n v v0 hv (omega arith) (λ j h. small j (omega arith)) (λ j h. step j (omega arith)))
    ∙ ap₂ worked
    (ap₂ (λ (p q : ℕ). store L p 1 q y) ec (mod-eq_of_lt hb)
    ∙ store_join L (c + from) n 1 (v n) b x (hv n) hb (omega arith)
    ∙ ap₂ (λ (p q : ℕ). store L (c + from) p q x) en (step n (omega arith) ∙ ap v en))
    (or_zero_r f)

pub run_of_bits : (L c from x f : ℕ) (g : ℕ → Place) (n : ℕ) (q : Place) → c + (from + n) ≤ L → ((j : ℕ) → j < n → g (from + j) ≡ along q j) → Runs L c from n q
    → turns (taken_shape c 1 g) L from n (worked x f) ≡ worked (store L (c + from) n (value_at L n q x) x) f
run_of_bits L c from x f g n (bits a) le e (la, d) =
    run_by L c from x f g n (λ j. field L a j x) (field_none L a x) (λ j. field_lt L a j x) le
    (λ j h. rw (e j h) (field_lt L (a + j) 1 (store L (c + from) j (field L a j x) x)))
    (λ j h. rw (e j h) (ap (λ (y : ℕ). field L a j x * 2 ^ 1 + y)
    (field_other L (c + from) j (field L a j x) (a + j) 1 x (field_lt L a j x) (omega arith) (omega arith) (⊎_elim (λ l. inl (omega arith)) (λ r. inr (omega arith)) d))
    ∙ sym (field_join L a j 1 x (omega arith))))
run_of_bits L c from x f g n (fixed v) le e ev =
    rw ev (run_by L c from x f g n (λ j. 0) refl (λ j. pow_pos j) le (λ j h. rw (e j h, ev) (omega arith)) (λ j h. rw (e j h, ev) refl))

-- ---- a turn of the loop

pub value_small : (L n : ℕ) (q : Place) (x c i : ℕ) → Runs L c i n q → value_at L n q x < 2 ^ n
value_small L n (bits a) x c i h = field_lt L a n x
value_small L n (fixed v) x c i h = rw h (pow_pos n)

pub room_for : (m m₀ : List ℕ) (n c i : ℕ) (q : Place) → length m ≡ length m₀ → length m₀ ≤ 65536 → length m₀ % 8 ≡ 0 → 0 < n → n ≤ 64 → Runs (size m₀) c i n q → RoomFor m n q
room_for m m₀ n c i (bits a) e hs hw h0 hn h = record { small = omega arith; words = rw e hw; some = h0; few = hn; upto = omega (arith, h.0) }
room_for m m₀ n c i (fixed v) e hs hw h0 hn h = tt

pub weave_turn : (m₀ m m' : List ℕ) (w : Weave) (N from done n v : ℕ) → ReadyBits m₀ w N → 0 < n → from + done + n ≤ N → n ≤ left_at (cursor_at w (from + done)) w.period
    → length m ≡ length m₀ → v ≡ value_at (size m) n (woven_at w (from + done)) (num m) → Kept m (w.to + (from + done)) n v m'
    → (f : ℕ) → worked (num m) f ≡ turns (woven_shape w) (size m₀) from done (worked (num m₀) f)
    → worked (num m') f ≡ turns (woven_shape w) (size m₀) from (done + n) (worked (num m₀) f)
weave_turn m₀ m m' w N from done n v h hn le hl len ev kp f inv =
    let es : size m ≡ size m₀ = ap (λ (k : ℕ). 8 * k) len in
    let i : ℕ = from + done in
    ap (λ (y : ℕ). worked y f) (kp.holds ∙ ap₂ (λ (L q : ℕ). store L (w.to + i) n q (num m)) es (ev ∙ ap (λ (L : ℕ). value_at L n (woven_at w i) (num m)) es))
    ∙ sym (run_of_bits (size m₀) w.to i (num m) f (woven_at w) n (woven_at w i) (omega (arith, h.upto_c)) (λ j hj. places m₀ w N i n h hn le hl j hj) (stands_clear m₀ w N i n h hn le hl))
    ∙ ap (turns (woven_shape w) (size m₀) i n) inv
    ∙ resume (woven_shape w) (size m₀) from done n (worked (num m₀) f)

-- what the loop knows of the run of n bits that it works next, in a memory m
pub record Turn (m : List ℕ) (w : Weave) (i N n : ℕ) : Type 0 where
  pub some : 0 < n
  pub few : n ≤ 64
  pub upto : i + n ≤ N
  pub left : n ≤ left_at (cursor_at w i) w.period
  pub period : i % period_bits w.period + n ≤ period_bits w.period
  pub word : (w.to + i) % 64 + n ≤ 64
  pub room : RoomFor m n (woven_at w i)
  pub room_to : Room m (w.to + i) n
  pub small : value_at (size m) n (woven_at w i) (num m) < 2 ^ n

left_is : (w : Weave) (i : ℕ) → 0 < period_bits w.period → (0 < left_at (cursor_at w i) w.period) × (i % period_bits w.period + left_at (cursor_at w i) w.period ≤ period_bits w.period)
unfolding cursor_at
left_is w i hp = go (ltb (i % period_bits w.period) w.period.head) refl
  where
    go : (t : Bool) → ltb (i % period_bits w.period) w.period.head ≡ t
        → (0 < cond t (w.period.head - i % period_bits w.period) (period_bits w.period - i % period_bits w.period))
        × (i % period_bits w.period + cond t (w.period.head - i % period_bits w.period) (period_bits w.period - i % period_bits w.period) ≤ period_bits w.period)
    go true e = let l = ltb-true (i % period_bits w.period) w.period.head e in (omega arith, omega arith)
    go false e = let l : i % period_bits w.period < period_bits w.period = mod-lt i hp in (omega arith, omega arith)

pub next_turn : (m₀ m : List ℕ) (w : Weave) (from count done n : ℕ) → ReadyBits m₀ w (from + count) → length m ≡ length m₀ → done < count
    → n ≡ min (min (left_at (cursor_at w (from + done)) w.period) (count - done)) (64 - (w.to + (from + done)) % 64) → Turn m w (from + done) (from + count) n
next_turn m₀ m w from count done n h len hd en =
    let k = left_is w (from + done) h.some_bits in
    let f = facts (left_at (cursor_at w (from + done)) w.period) ((from + done) % period_bits w.period) en k.0 k.1 in
    let r : Runs (size m) w.to (from + done) n (woven_at w (from + done)) =
    rw (← len) at (stands_clear m₀ w (from + count) (from + done) n h f.0 f.1 f.2) in
    record {
      some = f.0;
      few = omega arith;
      upto = f.1;
      left = f.2;
      period = f.3;
      word = omega arith;
      room = room_for m m₀ n w.to (from + done) (woven_at w (from + done)) len h.small h.words f.0 (omega arith) (rw len at r);
      room_to = record { small = omega (arith, h.small); words = rw len h.words; some = f.0; few = omega arith; upto = omega (arith, h.upto_c, f.1) };
      small = value_small (size m) n (woven_at w (from + done)) (num m) w.to (from + done) r;
    }
  where
    facts : (a q : ℕ) → n ≡ min (min a (count - done)) (64 - (w.to + (from + done)) % 64) → 0 < a → q + a ≤ period_bits w.period
        → (0 < n) × (from + done + n ≤ from + count) × (n ≤ a) × (q + n ≤ period_bits w.period)
    facts a q e k k' = (omega arith, omega arith, omega arith, omega arith)
