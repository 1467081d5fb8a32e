-- Items one after another, each on the memory as it is then, are the items all at once from the memory at the start, flags and all; and a pause
-- changes nothing. One law for every shape whose sources the result does not spoil: what an item reads is as it was when the first began.
use mathlib.Core.Path.{◌≡◌, refl, ap, ap₂, ◌∙◌}
use mathlib.Core.Logic.{◌⊎◌, ⊎_elim}
use mathlib.Core.Bool.{Bool, true, false, cond}
use Prim.Native.Nat.{ℕ, zero, suc, ◌+◌, ◌*◌, ◌^◌, ◌≤◌, ◌<◌}
use native.Mathlib.Nat.{mod-lt, suc-mul, mul-le-mul_right}
use native.Mathlib.Omega.{arith}
use lib.Bits.{bit_or}
use lib.Pow.{pow_pos}
use Rattle.fields.specs.Field.{field, store, Apart}
use Rattle.fields.proofs.Places.{field_lt}
use Rattle.fields.proofs.Turns.{in_turn, Same, Looks, look_apart, look_same, at_once, untouched, done, to_come}
use Rattle.instructions.specs.Items.{Place, bits, fixed, Shape, value_at, stored_at, made_at, item_at, flags_at, MemoryAndFlags, worked, turn, turns, flags_together, whole}

-- n bits of item i come from a place that no earlier item of the result spoils: apart from the whole result, or item i itself
abbrev pub Clear : ℕ → ℕ → ℕ → ℕ → ℕ → ℕ → Place → Type 0
Clear L c w count i n (bits a) = (a + n ≤ L) × ((Apart c (count * w) a n) ⊎ ((a ≡ c + i * w) × (n ≡ w)))
Clear L c w count i n (fixed v) = Unit {0}

pub record Clears (L : ℕ) (s : Shape) (count i : ℕ) : Type 0 where
  pub one : Clear L s.result s.width count i s.unit (s.first i)
  pub two : Clear L s.result s.width count i s.unit (s.second i)
  pub bit : Clear L s.result s.width count i 1 (s.control i)

pub record Sound (L : ℕ) (s : Shape) (count : ℕ) : Type 0 where
  pub fits : s.result + count * s.width ≤ L
  pub clear : (i : ℕ) → i < count → Clears L s count i

within : (c w count L i : ℕ) → c + count * w ≤ L → i < count → (c + i * w) + w ≤ L
within c w count L i f h = omega (arith, suc-mul i w, mul-le-mul_right w h)

value_same : (L c w count i n : ℕ) (p : Place) (x y : ℕ) → c + count * w ≤ L → i < count → Clear L c w count i n p → Same L c (i * w) x y → value_at L n p x ≡ value_at L n p y
value_same L c w count i n (bits a) x y f h k s =
    ⊎_elim
    (λ d. look_apart L c w count i a n a n x y h d k.0 (omega arith) (omega arith) s)
    (λ e. rw (e.0, e.1) (look_same L c w i x y (within c w count L i f h) s))
    k.1
value_same L c w count i n (fixed v) x y f h k s = refl

module _ (L : ℕ) (s : Shape) (count : ℕ) (h : Sound L s count) where
  stored_same : (i x y : ℕ) → i < count → Same L s.result (i * s.width) x y → stored_at s L i x ≡ stored_at s L i y
  unfolding stored_at
  stored_same i x y lt e = rw (value_same L s.result s.width count i 1 (s.control i) x y h.fits lt (h.clear i lt).bit e)

  made_same : (i x y : ℕ) → i < count → Same L s.result (i * s.width) x y → made_at s L i x ≡ made_at s L i y
  unfolding made_at
  made_same i x y lt e =
      ap₂ s.makes (value_same L s.result s.width count i s.unit (s.first i) x y h.fits lt (h.clear i lt).one e)
      (value_same L s.result s.width count i s.unit (s.second i) x y h.fits lt (h.clear i lt).two e)

  pub item_looks : Looks L s.result s.width count (item_at s L)
  unfolding item_at
  item_looks i x y lt e =
      let k = stored_same i x y lt e in
      let m = made_same i x y lt e in
      let o = look_same L s.result s.width i x y (within s.result s.width count L i h.fits lt) e in
      rw (k, m, o)

  pub flags_looks : (i x y : ℕ) → i < count → Same L s.result (i * s.width) x y → flags_at s L i x ≡ flags_at s L i y
  unfolding flags_at
  flags_looks i x y lt e = rw (stored_same i x y lt e, made_same i x y lt e)

pub item_lt : (s : Shape) (L i x : ℕ) → item_at s L i x < 2 ^ s.width
unfolding item_at
item_lt s L i x =
    below (stored_at s L i x)
    (mod-lt (made_at s L i x).item (pow_pos s.width))
    (field_lt L (s.result + i * s.width) s.width x)
  where
    below : {a b n : ℕ} (t : Bool) → a < n → b < n → cond t a b < n
    below true p q = p
    below false p q = q

-- the memory of the items in turn is fields' in_turn
pub turns_memory : (s : Shape) (L k : ℕ) (w : MemoryAndFlags) → (turns s L 0 k w).memory ≡ in_turn L s.result s.width (item_at s L) k w.memory
turns_memory s L zero w = refl
turns_memory s L (suc k) w =
    let e : 0 + k ≡ k = omega arith in
    rw e (ap (λ (x : ℕ). store L (s.result + k * s.width) s.width (item_at s L k x) x) (turns_memory s L k w))

-- a pause changes nothing
pub resume : (s : Shape) (L a j k : ℕ) (w : MemoryAndFlags) → turns s L (a + j) k (turns s L a j w) ≡ turns s L a (j + k) w
resume s L a j zero w =
    let e : j + 0 ≡ j = omega arith in
    rw e
resume s L a j (suc k) w =
    let e : j + suc k ≡ suc (j + k) = omega arith in
    let e' : (a + j) + k ≡ a + (j + k) = omega arith in
    rw (e, e') (ap (turn s L (a + (j + k))) (resume s L a j k w))

module _ (L : ℕ) (s : Shape) (count : ℕ) (h : Sound L s count) (w : MemoryAndFlags) where
  -- after k items the first k are done, from the memory at the start, and nothing else; the flags are those of the first k
  pub agree : (k : ℕ) → k ≤ count → turns s L 0 k w ≡ whole s L k w
  agree k le = both (turns s L 0 k w) _ _ (mem k le) (fl k le)
    where
      both : (v : MemoryAndFlags) (x f : ℕ) → v.memory ≡ x → v.flags ≡ f → v ≡ worked x f
      both v x f p q = ap₂ worked p q

      mem : (k : ℕ) → k ≤ count → (turns s L 0 k w).memory ≡ (whole s L k w).memory
      mem k le =
          turns_memory s L k w
          ∙ at_once L s.result s.width count (item_at s L) h.fits (item_lt s L) (item_looks L s count h) w.memory k le

      fl : (k : ℕ) → k ≤ count → (turns s L 0 k w).flags ≡ flags_together s L k w.memory w.flags
      fl zero le = refl
      fl (suc k) le =
          let e : 0 + k ≡ k = omega arith in
          rw e (ap₂ bit_or (fl k (omega arith))
          (ap (flags_at s L k) (turns_memory s L k w)
          ∙ flags_looks L s count h k (in_turn L s.result s.width (item_at s L) k w.memory) w.memory le
          (untouched L s.result s.width count (item_at s L) h.fits (item_lt s L) (item_looks L s count h) w.memory k (omega arith))))

  -- the same, item for item
  pub item_done : (k j : ℕ) → k ≤ count → j < k → field L (s.result + j * s.width) s.width (turns s L 0 k w).memory ≡ item_at s L j w.memory
  item_done k j le lt =
      ap (field L (s.result + j * s.width) s.width) (turns_memory s L k w)
      ∙ done L s.result s.width count (item_at s L) h.fits (item_lt s L) (item_looks L s count h) w.memory k j le lt

  pub item_to_come : (k j : ℕ) → k ≤ j → j < count → field L (s.result + j * s.width) s.width (turns s L 0 k w).memory ≡ field L (s.result + j * s.width) s.width w.memory
  item_to_come k j le lt =
      ap (field L (s.result + j * s.width) s.width) (turns_memory s L k w)
      ∙ to_come L s.result s.width count (item_at s L) h.fits (item_lt s L) (item_looks L s count h) w.memory k j le lt

  pub elsewhere : (k : ℕ) → k ≤ count → Same L s.result (k * s.width) (turns s L 0 k w).memory w.memory
  elsewhere k le a n la d =
      ap (field L a n) (turns_memory s L k w)
      ∙ untouched L s.result s.width count (item_at s L) h.fits (item_lt s L) (item_looks L s count h) w.memory k le a n la d
