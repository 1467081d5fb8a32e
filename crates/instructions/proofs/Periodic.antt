-- Bits by several periods at once. Items side by side are one number; that of t periods is the pieces of R and those of S, spread out.
use mathlib.Core.Path.{◌≡◌, refl, sym, ap, ap₂, subst, ◌∙◌}
use mathlib.Core.Logic.{inl, inr, ⊎_elim}
use mathlib.Core.Bool.{Bool, true, false, cond}
use mathlib.Core.List.{List}
use Rattle.std.specs.Prelude.{Option, Some, None}
use Prim.Native.Nat.{ℕ, zero, suc, ◌+◌, ◌-◌, ◌*◌, ◌/◌, ◌%◌, ◌^◌, ◌≤◌, ◌<◌}
use native.Mathlib.Nat.{add-mul, mul-add, mul_assoc, mul_comm, suc-mul, pow-succ', mul-le-mul_left, mul-le-mul_right, add-mul-div_right, add-mul-mod_self_right, div-mul-le_self, zero-div, zero-mod, zero-mul, le_trans, lt_of_lt_of_le, le-div_iff_mul-le, div-one, mod-lt, mod-eq_of_lt}
use native.Mathlib.Omega.{arith}
use borrow.Author.Tests.{lt-ltb, le-ltb}
use lib.Dec.{ltb}
use lib.ListN.{length}
use lib.Bits.{bit_and, and_zero_r, and_block, and_mask}
use lib.Pow.{pow-add, pow_mono, pow_pos, shl_exact, shr-shr, split, ones_lt, mod-mod-pow}
use Rattle.fields.specs.Slot.{get}
use Rattle.fields.specs.Field.{field, store}
use Rattle.fields.specs.Bytes.{num, size}
use Rattle.fields.specs.Memory.{Kept}
use Rattle.fields.proofs.Slots.{get_lt}
use Rattle.fields.proofs.Places.{field_lt, field_other, field_join, field_field, field_none}
use Rattle.instructions.specs.declared.bitruns.Period.{Period}
use Rattle.instructions.specs.declared.bitruns.Cursor.{Cursor}
use Rattle.instructions.specs.declared.bitruns.Weave.{Weave}
use Rattle.instructions.specs.Items.{Place, bits, fixed, value_at, Shape, worked, turns}
use Rattle.instructions.specs.Plan.{second_bit}
use Rattle.instructions.specs.Private.Loops.{TurnedQuietly, Room, RoomFor, period_bits, cursor_at, woven_at, woven_shape, ReadyBits, span_r, span_s, Chunk, spread_of, periods_of}
use Rattle.instructions.proofs.Agree.{resume}
use Rattle.instructions.proofs.Weaving.{along, within, near, second_along, run_by}

-- ---- numbers side by side

pub beside : (a b n k : ℕ) → a < 2 ^ n → b < 2 ^ k → a * 2 ^ k + b < 2 ^ (n + k)
beside a b n k ha hb =
    let le : (a + 1) * 2 ^ k ≤ 2 ^ n * 2 ^ k = mul-le-mul_right (2 ^ k) (omega arith) in
    let e : (a + 1) * 2 ^ k ≡ a * 2 ^ k + 1 * 2 ^ k = add-mul a 1 (2 ^ k) in
    rw (pow-add 2 n k) (omega arith)

double : (a b : ℕ) → a * 2 ^ suc b ≡ a * 2 ^ b * 2 ^ 1
double a b =
    let e : 2 ^ suc b ≡ 2 ^ b + 2 ^ b = omega (arith, pow-succ' 2 b) in
    ap (λ (k : ℕ). a * k) e ∙ omega (arith, mul-add a (2 ^ b) (2 ^ b))

-- two parts to the right: (a t + b) p + (c t + d) = (a p + c) t + (b p + d)
regroup : (a b c d t p : ℕ) → (a * t + b) * p + (c * t + d) ≡ (a * p + c) * t + (b * p + d)
regroup a b c d t p =
    let e₁ : (a * t + b) * p ≡ a * t * p + b * p = add-mul (a * t) b p in
    let e₂ : (a * p + c) * t ≡ a * p * t + c * t = add-mul (a * p) c t in
    let e₃ : a * t * p ≡ a * p * t = mul_assoc a t p ∙ ap (λ (k : ℕ). a * k) (mul_comm t p) ∙ sym (mul_assoc a p t) in
    omega arith

-- ---- items side by side

abbrev pub gathered : ℕ → (ℕ → Place) → ℕ → ℕ → ℕ → ℕ
gathered L g x i zero = 0
gathered L g x i (suc n) = gathered L g x i n * 2 ^ 1 + value_at L 1 (g (i + n)) x

gathered_lt : (L : ℕ) (g : ℕ → Place) (x i : ℕ) → ((j : ℕ) → value_at L 1 (g j) x < 2) → (n : ℕ) → gathered L g x i n < 2 ^ n
gathered_lt L g x i h zero = omega arith
gathered_lt L g x i h (suc n) =
    let e : n + 1 ≡ suc n = omega arith in
    rw e at (beside (gathered L g x i n) (value_at L 1 (g (i + n)) x) n 1 (gathered_lt L g x i h n) (h (i + n)))

gathered_join : (L : ℕ) (g : ℕ → Place) (x i a b : ℕ) → gathered L g x i (a + b) ≡ gathered L g x i a * 2 ^ b + gathered L g x (i + a) b
gathered_join L g x i a zero =
    let e : a + 0 ≡ a = omega arith in
    rw e (omega arith)
gathered_join L g x i a (suc b) =
    let e : a + suc b ≡ suc (a + b) = omega arith in
    let e' : (i + a) + b ≡ i + (a + b) = omega arith in
    rw (e, e') (omega (arith, gathered_join L g x i a b, double (gathered L g x i a) b))

-- n bits at a place are in memory, if there are any; a value is zero
abbrev Lies : ℕ → ℕ → Place → Type 0
Lies L n (bits a) = 0 < n → a + n ≤ L
Lies L n (fixed v) = v ≡ 0

gathered_run : (L : ℕ) (g : ℕ → Place) (x i : ℕ) (q : Place) (n : ℕ) → ((j : ℕ) → j < n → g (i + j) ≡ along q j) → Lies L n q → gathered L g x i n ≡ value_at L n q x
gathered_run L g x i (bits a) zero e l = sym (field_none L a x)
gathered_run L g x i (bits a) (suc n) e l =
    let en : n + 1 ≡ suc n = omega arith in
    ap₂ (λ (y z : ℕ). y * 2 ^ 1 + z) (gathered_run L g x i (bits a) n (λ j h. e j (omega arith)) (λ h. omega (arith, l (omega arith)))) (ap (λ (q : Place). value_at L 1 q x) (e n (omega arith)))
    ∙ sym (field_join L a n 1 x (omega (arith, l (omega arith)))) ∙ ap (λ (k : ℕ). field L a k x) en
gathered_run L g x i (fixed v) zero e l = sym l
gathered_run L g x i (fixed v) (suc n) e l =
    ap₂ (λ (y z : ℕ). y * 2 ^ 1 + z) (gathered_run L g x i (fixed v) n (λ j h. e j (omega arith)) l) (ap (λ (q : Place). value_at L 1 q x) (e n (omega arith))) ∙ omega arith

woven_lt : (L : ℕ) (w : Weave) (x i : ℕ) → value_at L 1 (woven_at w i) x < 2
woven_lt L w x i = go (ltb (cursor_at w i).place w.period.head) w.s
  where
    go : (t : Bool) (o : Option ℕ) → value_at L 1 (cond t (bits ((cursor_at w i).r + (cursor_at w i).place)) (second_bit o ((cursor_at w i).s + ((cursor_at w i).place - w.period.head)))) x < 2
    go true o = field_lt L _ 1 x
    go false (Some b) = field_lt L _ 1 x
    go false None = omega arith

-- n items side by side, stored at once, are the items in turn
pub chunk_turn : (m₀ m m' : List ℕ) (w : Weave) (N from done n v : ℕ) → ReadyBits m₀ w N → from + done + n ≤ N → length m ≡ length m₀
    → v ≡ gathered (size m) (woven_at w) (num m) (from + done) n → Kept m (w.to + (from + done)) n v m'
    → (f : ℕ) → worked (num m) f ≡ turns (woven_shape w) (size m₀) from done (worked (num m₀) f)
    → worked (num m') f ≡ turns (woven_shape w) (size m₀) from (done + n) (worked (num m₀) f)
chunk_turn m₀ m m' w N from done n v h le len ev kp f inv =
    let es : size m ≡ size m₀ = ap (λ (k : ℕ). 8 * k) len in
    ap (λ (y : ℕ). worked y f) (kp.holds ∙ ap₂ (λ (L q : ℕ). store L (w.to + (from + done)) n q (num m)) es (ev ∙ ap (λ (L : ℕ). gathered L (woven_at w) (num m) (from + done) n) es))
    ∙ sym (run_by L w.to i x f g n (λ j. gathered L g x i j) refl (λ j. gathered_lt L g x i (woven_lt L w x) j) (omega (arith, h.upto_c)) (λ j hj. woven_lt L w _ (i + j)) one)
    ∙ ap (turns (woven_shape w) L i n) inv
    ∙ resume (woven_shape w) L from done n (worked (num m₀) f)
  where
    L : ℕ
    L = 8 * length m₀

    i : ℕ
    i = from + done

    x : ℕ
    x = num m

    g : ℕ → Place
    g = woven_at w

    kept : (j : ℕ) → j < n → (q : Place) → woven_at w (from + done + j) ≡ q
        → value_at (8 * length m₀) 1 q (store (8 * length m₀) (w.to + (from + done)) j (gathered (8 * length m₀) (woven_at w) (num m) (from + done) j) (num m)) ≡ value_at (8 * length m₀) 1 q (num m)
    kept j hj (bits a) e =
        let z = h.clear (from + done + j) a (omega arith) e in
        field_other (8 * length m₀) (w.to + (from + done)) j (gathered (8 * length m₀) (woven_at w) (num m) (from + done) j) a 1 (num m)
        (gathered_lt (8 * length m₀) (woven_at w) (num m) (from + done) (woven_lt (8 * length m₀) w (num m)) j) (omega (arith, h.upto_c)) (omega (arith, z.0))
        (⊎_elim (λ l. inl (omega arith)) (λ l. inr (omega arith)) z.1)
    kept j hj (fixed v) e = refl

    one : (j : ℕ) → j < n
        → gathered (8 * length m₀) (woven_at w) (num m) (from + done) j * 2 ^ 1 + value_at (8 * length m₀) 1 (woven_at w (from + done + j)) (store (8 * length m₀) (w.to + (from + done)) j (gathered (8 * length m₀) (woven_at w) (num m) (from + done) j) (num m))
        ≡ gathered (8 * length m₀) (woven_at w) (num m) (from + done) (j + 1)
    one j hj =
        let e : j + 1 ≡ suc j = omega arith in
        rw e (ap (λ (y : ℕ). gathered (8 * length m₀) (woven_at w) (num m) (from + done) j * 2 ^ 1 + y) (kept j hj (woven_at w (from + done + j)) refl))

-- ---- pieces spread out

pub spread_lt : (x step n gap t k : ℕ) → n ≤ gap → spread_of x step n gap t k < 2 ^ (k * gap)
spread_lt x step n gap t zero h = pow_pos (0 * gap)
spread_lt x step n gap t (suc k) h =
    let e : k * gap + gap ≡ suc k * gap = sym (suc-mul k gap) in
    rw e at (beside (spread_of x step n gap t k) (get ((t - suc k) * step) n x) (k * gap) gap (spread_lt x step n gap t k h) (lt_of_lt_of_le (get_lt ((t - suc k) * step) n x) (pow_mono h)))

-- the leftmost piece has no gap before it
pub spread_short : (x step n gap t k : ℕ) → n ≤ gap → spread_of x step n gap t (suc k) < 2 ^ (k * gap + n)
spread_short x step n gap t zero h =
    let e : 0 * gap + n ≡ n = omega arith in
    let z : 0 * 2 ^ gap + get ((t - 1) * step) n x ≡ get ((t - 1) * step) n x = omega arith in
    rw (z, e) (get_lt ((t - 1) * step) n x)
spread_short x step n gap t (suc k) h =
    let e : k * gap + n + gap ≡ suc k * gap + n = omega (arith, suc-mul k gap) in
    rw e at (beside (spread_of x step n gap t (suc k)) (get ((t - suc (suc k)) * step) n x) (k * gap + n) gap (spread_short x step n gap t k h) (lt_of_lt_of_le (get_lt ((t - suc (suc k)) * step) n x) (pow_mono h)))

-- one piece more
pub spread_more : (x step n gap t k v b : ℕ) → n ≤ gap → k < t → t * gap ≤ 64 → v ≡ spread_of x step n gap t k → b ≡ get ((t - (k + 1)) * step) n x
    → (v * 2 ^ gap % 2 ^ 64 + b ≡ spread_of x step n gap t (k + 1)) × (v * 2 ^ gap % 2 ^ 64 + b < 2 ^ 64)
spread_more x step n gap t k v b h lt fits ev eb =
    let e : k + 1 ≡ suc k = omega arith in
    let le : (k + 1) * gap ≤ 64 = omega (arith, mul-le-mul_right gap (let z : k + 1 ≤ t = omega arith in z)) in
    let s : (k + 1) * gap ≡ k * gap + 1 * gap = add-mul k 1 gap in
    let low : v < 2 ^ (k * gap) = rw ev (spread_lt x step n gap t k h) in
    let q : v * 2 ^ gap % 2 ^ 64 + b ≡ spread_of x step n gap t (k + 1) =
    rw e (ap₂ (λ (y z : ℕ). y + z) (shl_exact {a = v} (k * gap) gap 64 low (omega arith) ∙ ap (λ (y : ℕ). y * 2 ^ gap) ev) (rw e at eb)) in
    (q, rw q (lt_of_lt_of_le (spread_lt x step n gap t (k + 1) h) (pow_mono le)))

pub steps_fit : (t k step : ℕ) → k < t → t * step ≤ 64 → (t - (k + 1)) * step < 64
steps_fit t k zero lt le = omega (arith, mul_comm (t - (k + 1)) 0)
steps_fit t k (suc s) lt le =
    let e : (t - (k + 1)) + (k + 1) ≡ t = omega arith in
    let a : (t - (k + 1) + (k + 1)) * suc s ≡ (t - (k + 1)) * suc s + (k + 1) * suc s = add-mul (t - (k + 1)) (k + 1) (suc s) in
    let b : (k + 1) * suc s ≡ k * suc s + 1 * suc s = add-mul k 1 (suc s) in
    let a' : t * suc s ≡ (t - (k + 1)) * suc s + (k + 1) * suc s = rw e at a in
    omega arith

-- pieces that stay where they are
ones_mask : (n gap y : ℕ) → n ≤ gap → bit_and (y % 2 ^ gap) ((2 ^ n - 1) / 2 ^ 0 % 2 ^ n) ≡ y % 2 ^ n
ones_mask n gap y le =
    let e : (gap - n) + n ≡ gap = omega arith in
    let o : (2 ^ n - 1) / 2 ^ 0 % 2 ^ n ≡ 2 ^ n - 1 = ap (λ (k : ℕ). k % 2 ^ n) (div-one (2 ^ n - 1)) ∙ mod-eq_of_lt (ones_lt n) in
    rw o (and_mask (y % 2 ^ gap) n ∙ ap (λ (k : ℕ). y % 2 ^ k % 2 ^ n) (sym e) ∙ mod-mod-pow y (gap - n) n)

stays : (x n gap t k : ℕ) → n ≤ gap → k ≤ t → bit_and (x / 2 ^ ((t - k) * gap)) (spread_of (2 ^ n - 1) 0 n gap t k) ≡ spread_of x gap n gap t k
stays x n gap t zero h le = and_zero_r (x / 2 ^ ((t - 0) * gap))
stays x n gap t (suc k) h le =
    let y : ℕ = x / 2 ^ ((t - suc k) * gap) in
    let e₁ : (t - suc k) + 1 ≡ t - k = omega arith in
    let e₂ : (t - suc k + 1) * gap ≡ (t - suc k) * gap + 1 * gap = add-mul (t - suc k) 1 gap in
    let e₃ : (t - suc k) * gap + gap ≡ (t - k) * gap = omega (arith, rw e₁ at e₂) in
    let e₄ : x / 2 ^ ((t - suc k) * gap) / 2 ^ gap ≡ x / 2 ^ ((t - k) * gap) = shr-shr x ((t - suc k) * gap) gap ∙ ap (λ (q : ℕ). x / 2 ^ q) e₃ in
    let z : (t - suc k) * 0 ≡ 0 = omega (arith, mul_comm (t - suc k) 0) in
    let low : get 0 n (2 ^ n - 1) < 2 ^ gap = lt_of_lt_of_le (get_lt 0 n (2 ^ n - 1)) (pow_mono h) in
    ap (λ (q : ℕ). bit_and (x / 2 ^ ((t - suc k) * gap)) (spread_of (2 ^ n - 1) 0 n gap t k * 2 ^ gap + get q n (2 ^ n - 1))) z
    ∙ ap (λ (q : ℕ). bit_and q (spread_of (2 ^ n - 1) 0 n gap t k * 2 ^ gap + get 0 n (2 ^ n - 1))) (sym (split (x / 2 ^ ((t - suc k) * gap)) gap))
    ∙ and_block gap (x / 2 ^ ((t - suc k) * gap) / 2 ^ gap) (spread_of (2 ^ n - 1) 0 n gap t k) (x / 2 ^ ((t - suc k) * gap) % 2 ^ gap) (get 0 n (2 ^ n - 1)) (mod-lt (x / 2 ^ ((t - suc k) * gap)) (pow_pos gap)) low
    ∙ ap₂ (λ (p q : ℕ). p * 2 ^ gap + q) (ap (λ (q : ℕ). bit_and q (spread_of (2 ^ n - 1) 0 n gap t k)) e₄ ∙ stays x n gap t k h (omega arith)) (ones_mask n gap (x / 2 ^ ((t - suc k) * gap)) h)

pub masked : (x o step n gap t : ℕ) → n ≤ gap → step ≡ gap → o ≡ spread_of (2 ^ n - 1) 0 n gap t t → bit_and x o ≡ spread_of x step n gap t t
masked x o step n gap t h es eo =
    let z : (t - t) * gap ≡ 0 = let e : t - t ≡ 0 = omega arith in ap (λ (q : ℕ). q * gap) e ∙ omega arith in
    let s : bit_and (x / 2 ^ ((t - t) * gap)) (spread_of (2 ^ n - 1) 0 n gap t t) ≡ spread_of x gap n gap t t = stays x n gap t t h (omega arith) in
    ap₂ bit_and (sym (ap (λ (q : ℕ). x / 2 ^ q) z ∙ div-one x)) eo ∙ s ∙ ap (λ (q : ℕ). spread_of x q n gap t t) (sym es)

-- a piece of a window is a field of memory
piece_is : (L x base step n t k : ℕ) → k < t → base + ((t - 1) * step + n) ≤ L → get ((t - suc k) * step) n (field L base ((t - 1) * step + n) x) ≡ field L (base + k * step) n x
piece_is L x base step n t k lt le =
    let e₁ : (t - suc k) + k ≡ t - 1 = omega arith in
    let e₂ : (t - suc k + k) * step ≡ (t - suc k) * step + k * step = add-mul (t - suc k) k step in
    let e₃ : (t - 1) * step ≡ (t - suc k) * step + k * step = rw e₁ at e₂ in
    let e : (t - suc k) * step ≡ ((t - 1) * step + n) - (k * step + n) = omega arith in
    rw e (field_field L base ((t - 1) * step + n) (k * step) n x le (omega arith))

get_none : (r n : ℕ) → get r n 0 ≡ 0
get_none r n = ap (λ (y : ℕ). y % 2 ^ n) (zero-div (2 ^ r)) ∙ zero-mod (2 ^ n)

pub spread_none : (step n gap t k : ℕ) → spread_of 0 step n gap t k ≡ 0
spread_none step n gap t zero = refl
spread_none step n gap t (suc k) = rw (spread_none step n gap t k, get_none ((t - suc k) * step) n) (omega (arith, zero-mul (2 ^ gap)))

-- ---- periods

-- how far past the beginnings of R and of S the head and the tail of the period of item i are
abbrev pub r_at : Period → ℕ → ℕ
r_at p i = i / period_bits p * p.first

abbrev pub s_at : Period → ℕ → ℕ
s_at p i = p.over + i / period_bits p * p.second

-- the beginning of the k-th period after i
pub later : (p : Period) (i k : ℕ) → 0 < period_bits p → i % period_bits p ≡ 0
    → ((i + k * period_bits p) % period_bits p ≡ 0) × (r_at p (i + k * period_bits p) ≡ r_at p i + k * p.first) × (s_at p (i + k * period_bits p) ≡ s_at p i + k * p.second)
later p i k hp hi =
    let q : (i + k * period_bits p) / period_bits p ≡ i / period_bits p + k = add-mul-div_right i k hp in
    (add-mul-mod_self_right i k (period_bits p) ∙ hi, rw q (omega (arith, add-mul (i / period_bits p) k p.first)), rw q (omega (arith, add-mul (i / period_bits p) k p.second)))

module _ (w : Weave) (i : ℕ) (hp : 0 < period_bits w.period) (hi : i % period_bits w.period ≡ 0) where
  head_place : (j : ℕ) → j < w.period.head → woven_at w (i + j) ≡ bits (w.r + r_at w.period i + j)
  unfolding cursor_at
  head_place j hj =
      let k = within i (period_bits w.period) j (omega arith) in
      let e : (i + j) % period_bits w.period ≡ j = omega (arith, k.1) in
      rw (k.0, e, lt-ltb j w.period.head hj) refl

  tail_place : (j : ℕ) → j < w.period.tail → woven_at w (i + w.period.head + j) ≡ along (second_bit w.s (s_at w.period i)) j
  unfolding cursor_at
  tail_place j hj =
      let k = within i (period_bits w.period) (w.period.head + j) (omega arith) in
      let e : i + w.period.head + j ≡ i + (w.period.head + j) = omega arith in
      let e' : (i + (w.period.head + j)) % period_bits w.period ≡ w.period.head + j = omega (arith, k.1) in
      rw (e, k.0, e', le-ltb (w.period.head + j) w.period.head (omega arith)) (second_along w.s _ _ j (omega arith))

-- the pieces of R and those of S do not run into each other
pub joint_lt : (x y f g head tail t k : ℕ) → spread_of x f head (head + tail) t k * 2 ^ tail + spread_of y g tail (head + tail) t k < 2 ^ (k * (head + tail))
joint_lt x y f g head tail t zero =
    let e : 0 * 2 ^ tail + 0 ≡ 0 = omega arith in
    rw e (pow_pos (0 * (head + tail)))
joint_lt x y f g head tail t (suc k) =
    let e : k * (head + tail) + (head + tail) ≡ suc k * (head + tail) = sym (suc-mul k (head + tail)) in
    let a : ℕ = get ((t - suc k) * f) head x in
    let b : ℕ = get ((t - suc k) * g) tail y in
    let low : a * 2 ^ tail + b < 2 ^ (head + tail) = beside a b head tail (get_lt ((t - suc k) * f) head x) (get_lt ((t - suc k) * g) tail y) in
    let z = beside (spread_of x f head (head + tail) t k * 2 ^ tail + spread_of y g tail (head + tail) t k) (a * 2 ^ tail + b) (k * (head + tail)) (head + tail) (joint_lt x y f g head tail t k) low in
    rw (← regroup (spread_of x f head (head + tail) t k) (spread_of y g tail (head + tail) t k) a b (2 ^ tail) (2 ^ (head + tail)), ← e) z

module _ (m₀ : List ℕ) (w : Weave) (N : ℕ) (h : ReadyBits m₀ w N) (i : ℕ) (hi : i % period_bits w.period ≡ 0) (le : i + period_bits w.period ≤ N) where
  head_lies : 0 < w.period.head → w.r + r_at w.period i + w.period.head ≤ size m₀
  head_lies l =
      let z = h.clear (i + (w.period.head - 1)) (w.r + r_at w.period i + (w.period.head - 1)) (omega arith) (head_place w i h.some_bits hi (w.period.head - 1) (omega arith)) in
      omega (arith, z.0)

  tail_lies : Lies (size m₀) w.period.tail (second_bit w.s (s_at w.period i))
  tail_lies = go w.s refl
    where
      go : (o : Option ℕ) → w.s ≡ o → Lies (size m₀) w.period.tail (second_bit o (s_at w.period i))
      go (Some b) e = λ l.
          let j : ℕ = w.period.tail - 1 in
          let z = h.clear (i + w.period.head + j) (b + s_at w.period i + j) (omega arith)
          (tail_place w i h.some_bits hi j (omega arith) ∙ ap (λ (o : Option ℕ). along (second_bit o (s_at w.period i)) j) e) in
          omega (arith, z.0)
      go None e = refl

  period_value : (x : ℕ) → gathered (size m₀) (woven_at w) x i (period_bits w.period) ≡ field (size m₀) (w.r + r_at w.period i) w.period.head x * 2 ^ w.period.tail + value_at (size m₀) w.period.tail (second_bit w.s (s_at w.period i)) x
  period_value x =
      gathered_join (size m₀) (woven_at w) x i w.period.head w.period.tail
      ∙ ap₂ (λ (y z : ℕ). y * 2 ^ w.period.tail + z)
      (gathered_run (size m₀) (woven_at w) x i (bits (w.r + r_at w.period i)) w.period.head (head_place w i h.some_bits hi) head_lies)
      (gathered_run (size m₀) (woven_at w) x (i + w.period.head) (second_bit w.s (s_at w.period i)) w.period.tail (tail_place w i h.some_bits hi) tail_lies)

module _ (m₀ : List ℕ) (w : Weave) (N t : ℕ) (h : ReadyBits m₀ w N) (u : Chunk w.period t) (i : ℕ) (hi : i % period_bits w.period ≡ 0) (le : i + t * period_bits w.period ≤ N) where
  inner : (k : ℕ) → k < t → i + k * period_bits w.period + period_bits w.period ≤ N
  inner k lt = omega (arith, mul-le-mul_right (period_bits w.period) (let z : k + 1 ≤ t = omega arith in z), add-mul k 1 (period_bits w.period))

  pub reach_r : w.r + r_at w.period i + span_r w.period t ≤ size m₀
  reach_r =
      let z = later w.period i (t - 1) h.some_bits hi in
      omega (arith, z.1, head_lies m₀ w N h (i + (t - 1) * period_bits w.period) z.0 (inner (t - 1) (omega (arith, u.some))) u.part)

  pub reach_s : (b : ℕ) → w.s ≡ Some b → b + s_at w.period i + span_s w.period t ≤ size m₀
  reach_s b e =
      let z = later w.period i (t - 1) h.some_bits hi in
      let l = rw e at (tail_lies m₀ w N h (i + (t - 1) * period_bits w.period) z.0 (inner (t - 1) (omega (arith, u.some)))) in
      omega (arith, z.2, l (h.some_tail b e))

  -- the pieces of the first k heads, and of the first k tails
  abbrev heads_to : ℕ → ℕ → ℕ
  heads_to x k = spread_of (field (size m₀) (w.r + r_at w.period i) (span_r w.period t) x) w.period.first w.period.head (period_bits w.period) t k

  abbrev tails_to : ℕ → ℕ → ℕ
  tails_to x k = spread_of (value_at (size m₀) (span_s w.period t) (second_bit w.s (s_at w.period i)) x) w.period.second w.period.tail (period_bits w.period) t k

  head_more : (x k : ℕ) → k < t → field (size m₀) (w.r + r_at w.period (i + k * period_bits w.period)) w.period.head x ≡ get ((t - suc k) * w.period.first) w.period.head (field (size m₀) (w.r + r_at w.period i) (span_r w.period t) x)
  head_more x k lt =
      let z = later w.period i k h.some_bits hi in
      let e : w.r + (r_at w.period i + k * w.period.first) ≡ w.r + r_at w.period i + k * w.period.first = omega arith in
      rw (z.1, e) (sym (piece_is (size m₀) x (w.r + r_at w.period i) w.period.first w.period.head t k lt reach_r))

  tail_more : (x k : ℕ) → k < t
      → value_at (size m₀) w.period.tail (second_bit w.s (s_at w.period (i + k * period_bits w.period))) x
      ≡ get ((t - suc k) * w.period.second) w.period.tail (value_at (size m₀) (span_s w.period t) (second_bit w.s (s_at w.period i)) x)
  tail_more x k lt = go w.s refl
    where
      go : (o : Option ℕ) → w.s ≡ o
          → value_at (size m₀) w.period.tail (second_bit o (s_at w.period (i + k * period_bits w.period))) x
          ≡ get ((t - suc k) * w.period.second) w.period.tail (value_at (size m₀) (span_s w.period t) (second_bit o (s_at w.period i)) x)
      go (Some b) eb =
          let z = later w.period i k h.some_bits hi in
          let e : b + (s_at w.period i + k * w.period.second) ≡ b + s_at w.period i + k * w.period.second = omega arith in
          rw (z.2, e) (sym (piece_is (size m₀) x (b + s_at w.period i) w.period.second w.period.tail t k lt (reach_s b eb)))
      go None eb = sym (get_none ((t - suc k) * w.period.second) w.period.tail)

  pub periods_are : (x k : ℕ) → k ≤ t → gathered (size m₀) (woven_at w) x i (k * period_bits w.period) ≡ heads_to x k * 2 ^ w.period.tail + tails_to x k
  periods_are x zero l = let e : 0 * period_bits w.period ≡ 0 = omega arith in rw e (omega arith)
  periods_are x (suc k) l =
      let z = later w.period i k h.some_bits hi in
      let e : suc k * period_bits w.period ≡ k * period_bits w.period + period_bits w.period = suc-mul k (period_bits w.period) in
      ap (gathered (size m₀) (woven_at w) x i) e
      ∙ gathered_join (size m₀) (woven_at w) x i (k * period_bits w.period) (period_bits w.period)
      ∙ ap₂ (λ (y v : ℕ). y * 2 ^ period_bits w.period + v) (periods_are x k (omega arith)) (period_value m₀ w N h (i + k * period_bits w.period) z.0 (inner k (omega arith)) x)
      ∙ regroup _ _ _ _ (2 ^ w.period.tail) (2 ^ period_bits w.period)
      ∙ ap₂ (λ (y v : ℕ). (heads_to x k * 2 ^ period_bits w.period + y) * 2 ^ w.period.tail + (tails_to x k * 2 ^ period_bits w.period + v)) (head_more x k (omega arith)) (tail_more x k (omega arith))

-- ---- what the functions compute

-- the shift loses nothing
heads_is : (x f head tail t v : ℕ) → 0 < t → t * (head + tail) ≤ 64 → v ≡ spread_of x f head (head + tail) t t → v * 2 ^ tail % 2 ^ 64 ≡ spread_of x f head (head + tail) t t * 2 ^ tail
heads_is x f head tail t v ht fits ev =
    let e : suc (t - 1) ≡ t = omega arith in
    let s : t * (head + tail) ≡ (t - 1) * (head + tail) + (head + tail) = ap (λ (k : ℕ). k * (head + tail)) (sym e) ∙ suc-mul (t - 1) (head + tail) in
    let lt : spread_of x f head (head + tail) t t < 2 ^ ((t - 1) * (head + tail) + head) = subst (λ (k : ℕ). spread_of x f head (head + tail) t k < 2 ^ ((t - 1) * (head + tail) + head)) e (spread_short x f head (head + tail) t (t - 1) (omega arith)) in
    rw ev (shl_exact {a = spread_of x f head (head + tail) t t} ((t - 1) * (head + tail) + head) tail 64 lt (omega arith))

module _ (L : ℕ) (w : Weave) (r s t z x v : ℕ) (u : Chunk w.period t) (ex : x ≡ field L r (span_r w.period t) z) (ev : v ≡ spread_of x w.period.first w.period.head (period_bits w.period) t t) where
  heads : v * 2 ^ w.period.tail % 2 ^ 64 ≡ spread_of (field L r (span_r w.period t) z) w.period.first w.period.head (period_bits w.period) t t * 2 ^ w.period.tail
  heads = heads_is x w.period.first w.period.head w.period.tail t v u.some u.fits ev ∙ ap (λ (y : ℕ). spread_of y w.period.first w.period.head (period_bits w.period) t t * 2 ^ w.period.tail) ex

  pub alone_is : w.s ≡ None → v * 2 ^ w.period.tail % 2 ^ 64 ≡ periods_of L w t r s z
  alone_is e = rw e (omega (arith, heads, spread_none w.period.second w.period.tail (period_bits w.period) t t))

  pub sum_is : (b y q : ℕ) → w.s ≡ Some b → y ≡ field L (b + s) (span_s w.period t) z → q ≡ spread_of y w.period.second w.period.tail (period_bits w.period) t t
      → v * 2 ^ w.period.tail % 2 ^ 64 + q ≡ periods_of L w t r s z
  sum_is b y q e ey eq = rw e (ap₂ (λ (a b : ℕ). a + b) heads (eq ∙ ap (λ (q : ℕ). spread_of q w.period.second w.period.tail (period_bits w.period) t t) ey))

  pub sum_fits : (y q : ℕ) → q ≡ spread_of y w.period.second w.period.tail (period_bits w.period) t t → v * 2 ^ w.period.tail % 2 ^ 64 + q < 2 ^ 64
  sum_fits y q eq = rw (heads, eq) (lt_of_lt_of_le (joint_lt (field L r (span_r w.period t) z) y w.period.first w.period.second w.period.head w.period.tail t t) (pow_mono u.fits))

-- what the loop knows of the t periods from item i on, n bits, which it works next in a memory m: their first head begins with bit r, and their first tail
-- is s bits past where S begins
pub record Next (m : List ℕ) (w : Weave) (t i n N r s : ℕ) : Type 0 where
  pub upto : i + n ≤ N
  pub room_r : Room m r (span_r w.period t)
  pub room_s : RoomFor m (span_s w.period t) (second_bit w.s s)
  pub room_to : Room m (w.to + i) n
  pub value : periods_of (size m) w t r s (num m) ≡ gathered (size m) (woven_at w) (num m) i n
  pub small : periods_of (size m) w t r s (num m) < 2 ^ n

next_chunk : (m₀ m : List ℕ) (w : Weave) (N t i : ℕ) → length m ≡ length m₀ → ReadyBits m₀ w N → Chunk w.period t → i % period_bits w.period ≡ 0 → i + t * period_bits w.period ≤ N
    → Next m w t i (t * period_bits w.period) N (w.r + r_at w.period i) (s_at w.period i)
next_chunk m₀ m w N t i len h u hi le =
    let es : size m ≡ size m₀ = ap (λ (k : ℕ). 8 * k) len in
    let ev : periods_of (size m) w t (w.r + r_at w.period i) (s_at w.period i) (num m) ≡ gathered (size m) (woven_at w) (num m) i (t * period_bits w.period) =
    rw es (sym (periods_are m₀ w N t h u i hi le (num m) t (omega arith))) in
    record {
      upto = le;
      room_r = record { small = omega (arith, h.small); words = rw len h.words; some = omega (arith, u.part); few = u.spans_r; upto = omega (arith, reach_r m₀ w N t h u i hi le) };
      room_s = second_room w.s refl;
      room_to = record { small = omega (arith, h.small); words = rw len h.words; some = omega (arith, mul-le-mul_right (period_bits w.period) (let z : 1 ≤ t = u.some in z), h.some_bits); few = u.fits; upto = omega (arith, h.upto_c) };
      value = ev;
      small = rw ev (gathered_lt (size m) (woven_at w) (num m) i (woven_lt (size m) w (num m)) (t * period_bits w.period));
    }
  where
    second_room : (o : Option ℕ) → w.s ≡ o → RoomFor m (span_s w.period t) (second_bit o (s_at w.period i))
    second_room (Some b) e =
        record { small = omega (arith, h.small); words = rw len h.words; some = omega (arith, h.some_tail b e); few = u.spans_s; upto = omega (arith, reach_s m₀ w N t h u i hi le b e) }
    second_room None e = tt

-- k times t periods past an item that begins one: the places, and that there are t periods more
chunk_after : (m₀ : List ℕ) (w : Weave) (from count t k : ℕ) → ReadyBits m₀ w (from + count) → Chunk w.period t → from % period_bits w.period ≡ 0 → k < count / (t * period_bits w.period)
    → ((from + k * (t * period_bits w.period)) % period_bits w.period ≡ 0)
    × (w.r + r_at w.period (from + k * (t * period_bits w.period)) ≡ w.r + r_at w.period from + k * (t * w.period.first))
    × (s_at w.period (from + k * (t * period_bits w.period)) ≡ s_at w.period from + k * (t * w.period.second))
    × (from + k * (t * period_bits w.period) + t * period_bits w.period ≤ from + count)
chunk_after m₀ w from count t k h u hf hk =
    let n : ℕ = t * period_bits w.period in
    let z = later w.period from (k * t) h.some_bits hf in
    let e : k * t * period_bits w.period ≡ k * (t * period_bits w.period) = mul_assoc k t (period_bits w.period) in
    let some : 0 < t * period_bits w.period = omega (arith, mul-le-mul_right (period_bits w.period) (let z : 1 ≤ t = u.some in z), h.some_bits) in
    let le : (k + 1) * (t * period_bits w.period) ≤ count = (le-div_iff_mul-le {k = t * period_bits w.period} {x = k + 1} some).0 (omega arith) in
    (rw e at z.0, omega (arith, (rw (mul_assoc k t w.period.first, e) at z.1)), rw (mul_assoc k t w.period.second, e) at z.2, omega (arith, add-mul k 1 (t * period_bits w.period)))

pub chunk_at : (m₀ m : List ℕ) (w : Weave) (from count t k : ℕ) (u : Cursor) → u ≡ cursor_at w from → length m ≡ length m₀ → ReadyBits m₀ w (from + count) → Chunk w.period t
    → from % period_bits w.period ≡ 0 → k < count / (t * period_bits w.period)
    → Next m w t (from + k * (t * period_bits w.period)) (t * period_bits w.period) (from + count) (u.r + k * (t * w.period.first)) (u.s + k * (t * w.period.second))
unfolding cursor_at
chunk_at m₀ m w from count t k u eu len h c hf hk =
    let z = chunk_after m₀ w from count t k h c hf hk in
    rw (eu, ← z.1, ← z.2) (next_chunk m₀ m w (from + count) t (from + k * (t * period_bits w.period)) len h c z.0 z.3)

pub chunk_near : (m₀ : List ℕ) (w : Weave) (from count t k : ℕ) (u : Cursor) → u ≡ cursor_at w from → ReadyBits m₀ w (from + count) → Chunk w.period t
    → from % period_bits w.period ≡ 0 → k < count / (t * period_bits w.period) → w.period.first < 2 ^ 32 → w.period.second < 2 ^ 32 → w.period.over < 2 ^ 32
    → (u.r + k * (t * w.period.first) < 2 ^ 53) × (u.s + k * (t * w.period.second) < 2 ^ 53)
unfolding cursor_at
chunk_near m₀ w from count t k u eu h c hf hk bf bs bo =
    let z = chunk_after m₀ w from count t k h c hf hk in
    rw (eu, ← z.1, ← z.2) (near w (from + k * (t * period_bits w.period)) (omega (arith, z.3, h.upto_c, h.small)) h.near_r bf bs bo)

-- ---- one part after another

pub ready_less : (m m' : List ℕ) (w : Weave) (n n' : ℕ) → length m' ≡ length m → n' ≤ n → ReadyBits m w n → ReadyBits m' w n'
ready_less m m' w n n' len le h =
    record {
      small = omega (arith, h.small);
      words = rw len h.words;
      upto_c = omega (arith, h.upto_c);
      some_bits = h.some_bits;
      near_r = h.near_r;
      some_tail = h.some_tail;
      clear = λ i a lt e. let z = h.clear i a (omega arith) e in (omega (arith, z.0), ⊎_elim (λ l. inl (omega arith)) (λ l. inr l) z.1);
    }

pub done_join : (m m₁ m₂ : List ℕ) (s : Shape) (from a b : ℕ) → TurnedQuietly s from a m m₁ → TurnedQuietly s (from + a) b m₁ m₂ → TurnedQuietly s from (a + b) m m₂
done_join m m₁ m₂ s from a b d₁ d₂ f =
    let es : size m₁ ≡ size m = ap (λ (n : ℕ). 8 * n) (d₁ f).as_long in
    record {
      as_long = (d₂ f).as_long ∙ (d₁ f).as_long;
      does = (rw es at (d₂ f).does) ∙ ap (turns s (size m) (from + a) b) (d₁ f).does ∙ resume s (size m) from a b (worked (num m) f);
    }

-- so many periods fit that are no longer than w
pub chunk_of : (p : Period) (w : ℕ) → 0 < p.head → w ≤ 32 → period_bits p ≤ w → p.first ≤ w → p.second ≤ w → Chunk p (64 / w)
chunk_of p w h0 hw hb hf hs =
    record { some = ht; part = h0; gap = omega arith; fits = under (period_bits p) hb; fits_r = under p.first hf; fits_s = under p.second hs; spans_r = last p.first p.head hf (omega arith); spans_s = last p.second p.tail hs (omega arith) }
  where
    full : 64 / w * w ≤ 64
    full = div-mul-le_self 64 w

    under : (n : ℕ) → n ≤ w → 64 / w * n ≤ 64
    under n l = le_trans (mul-le-mul_left (64 / w) l) full

    ht : 0 < 64 / w
    ht = (le-div_iff_mul-le {k = w} {x = 1} (omega arith)).1 (omega arith)

    last : (f n : ℕ) → f ≤ w → n ≤ w → (64 / w - 1) * f + n ≤ 64
    last f n lf ln =
        let e : (64 / w - 1) + 1 ≡ 64 / w = omega (arith, ht) in
        let q : (64 / w - 1 + 1) * w ≡ (64 / w - 1) * w + 1 * w = add-mul (64 / w - 1) 1 w in
        let q' : 64 / w * w ≡ (64 / w - 1) * w + 1 * w = rw e at q in
        omega (arith, mul-le-mul_left (64 / w - 1) lf, full)
