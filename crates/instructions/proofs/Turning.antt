-- A turn of a loop over items, once for every shape: what its calls say is one more item worked.
use mathlib.Core.Path.{◌≡◌, refl, sym, ap, ap₂, ◌∙◌}
use mathlib.Core.Bool.{Bool, true, false, cond}
use mathlib.Core.List.{List}
use Rattle.std.specs.Prelude.{Option}
use Prim.Native.Nat.{ℕ, zero, suc, ◌+◌, ◌-◌, ◌*◌, ◌/◌, ◌%◌, ◌^◌, ◌≤◌, ◌<◌}
use native.Mathlib.Nat.{mod-eq_of_lt}
use native.Mathlib.Numerals.{add-one}
use native.Mathlib.Omega.{arith}
use lib.Dec.{eqb}
use lib.Bits.{bit_or, or_zero_r}
use lib.ListN.{length, set, length-set, get_or}
use Rattle.fields.specs.Field.{field, store}
use Rattle.fields.specs.Bytes.{num, size, Bytes}
use Rattle.fields.proofs.Places.{field_lt}
use Rattle.fields.proofs.Lists.{byte_store, byte_field}
use Rattle.fields.specs.Memory.{Kept}
use Rattle.instructions.specs.declared.items.Source.{Source}
use Rattle.instructions.specs.declared.items.Source.TheVariants.{Field}
use Rattle.instructions.specs.declared.items.Gated.{Gated}
use Rattle.numbers.specs.declared.flags.Made.{Made}
use Rattle.instructions.specs.Items.{Place, Shape, value_at, stored_at, made_at, item_at, flags_at, MemoryAndFlags, worked, turn, turns}
use Rattle.instructions.specs.Plan.{taken_shape, vector_shape, source_item, control_bit, sense_of}
use Rattle.instructions.specs.Private.Loops.{SourceReach, Settled, Gate, Turned}

-- an item that is settled is a turn
pub one_turn : (s : Shape) (m m' : List ℕ) (f f' i : ℕ) (go : Bool) (new : Made ℕ) → go ≡ stored_at s (size m) i (num m) → new ≡ made_at s (size m) i (num m)
    → Settled m (s.result + i * s.width) s.width go new f m' f' → worked (num m') f' ≡ turn s (size m) i (worked (num m) f)
unfolding item_at flags_at
one_turn s m m' f f' i go new eg en k =
    ap₂ worked
    (k.kept.holds ∙ ap₂ (λ (t : Bool) (a : Made ℕ). store (size m) (s.result + i * s.width) s.width (cond t (a.item % 2 ^ s.width) (field (size m) (s.result + i * s.width) s.width (num m))) (num m)) eg en)
    (k.sets ∙ ap₂ (λ (t : Bool) (a : Made ℕ). bit_or f (cond t a.flags 0)) eg en)

-- k items are done, and one more
pub more : (s : Shape) (m₀ m m' : List ℕ) (f₀ f f' from k : ℕ) → length m ≡ length m₀ → worked (num m) f ≡ turns s (size m₀) from k (worked (num m₀) f₀)
    → worked (num m') f' ≡ turn s (size m) (from + k) (worked (num m) f) → worked (num m') f' ≡ turns s (size m₀) from (k + 1) (worked (num m₀) f₀)
more s m₀ m m' f₀ f f' from k len inv e =
    rw add-one (e ∙ ap (λ (n : ℕ). turn s (8 * n) (from + k) (worked (num m) f)) len ∙ ap (turn s (size m₀) (from + k)) inv)

-- a turn of the loop of vectors, from what its calls say
pub vector_turn : (a b : Source) (z : Option Gated) (c w : ℕ) (g : ℕ → ℕ → Made ℕ) (from i : ℕ) (m₀ m m' : List ℕ) (f₀ f f' go x y : ℕ) (new : Made ℕ)
    → from ≤ i → length m ≡ length m₀ → worked (num m) f ≡ turns (vector_shape a b z c w g) (size m₀) from (i - from) (worked (num m₀) f₀)
    → Gate go (value_at (size m) 1 (control_bit z i) (num m)) (sense_of z)
    → x ≡ value_at (size m) 64 (source_item a i) (num m)
    → y ≡ value_at (size m) 64 (source_item b i) (num m)
    → new ≡ g x y
    → Settled m (c + i * w) w (eqb go 1) new f m' f'
    → worked (num m') f' ≡ turns (vector_shape a b z c w g) (size m₀) from (i + 1 - from) (worked (num m₀) f₀)
unfolding stored_at made_at
vector_turn a b z c w g from i m₀ m m' f₀ f f' go x y new le len inv eg ex ey en st =
    let here : from + (i - from) ≡ i = omega arith in
    let next : i + 1 - from ≡ i - from + 1 = omega arith in
    let s : Shape = vector_shape a b z c w g in
    let t : worked (num m') f' ≡ turn s (size m) i (worked (num m) f) = one_turn s m m' f f' i (eqb go 1) new eg.tells (en ∙ ap₂ g ex ey) st in
    rw next (more s m₀ m m' f₀ f f' from (i - from) len inv (t ∙ ap (λ (j : ℕ). turn s (size m) j (worked (num m) f)) (sym here)))

-- items that are made of A alone, whatever B is
pub alone_turns : (a b b' : Source) (z : Option Gated) (c w : ℕ) (g : ℕ → ℕ → Made ℕ) → ((x y y' : ℕ) → g x y ≡ g x y') → (L from n : ℕ) (u : MemoryAndFlags)
    → turns (vector_shape a b z c w g) L from n u ≡ turns (vector_shape a b' z c w g) L from n u
unfolding item_at flags_at stored_at made_at
alone_turns a b b' z c w g one L from zero u = refl
alone_turns a b b' z c w g one L from (suc n) u =
    let s : Shape = vector_shape a b z c w g in
    let s' : Shape = vector_shape a b' z c w g in
    ap (turn s L (from + n)) (alone_turns a b b' z c w g one L from n u) ∙ alike_turn (from + n) (turns s' L from n u)
  where
    alike_turn : (i : ℕ) (u : MemoryAndFlags) → turn (vector_shape a b z c w g) L i u ≡ turn (vector_shape a b' z c w g) L i u
    alike_turn i u = rw (one (value_at L 64 (source_item a i) u.memory) (value_at L 64 (source_item b i) u.memory) (value_at L 64 (source_item b' i) u.memory))

pub alone_turned : (a a' b b' : Source) (z : Option Gated) (c w : ℕ) (g : ℕ → ℕ → Made ℕ) (from n : ℕ) (m : List ℕ) (f : ℕ) (m' : List ℕ) (f' : ℕ) → ((x y y' : ℕ) → g x y ≡ g x y') → a ≡ a'
    → Turned (vector_shape a b z c w g) from n m f m' f' → Turned (vector_shape a' b' z c w g) from n m f m' f'
alone_turned a a' b b' z c w g from n m f m' f' one e t =
    record { as_long = t.as_long; does = rw (← e) (t.does ∙ alone_turns a b b' z c w g one (size m) from n (worked (num m) f)) }

-- a field of words begins with a byte
pub whole_field : (m : List ℕ) (n base : ℕ) (a : Source) → a ≡ Field base → SourceReach m n a → Field (8 * (base / 8)) ≡ a
whole_field m n base a e h =
    let q : SourceReach m n (Field base) = rw e at h in
    ap Field (omega (arith, q.0)) ∙ sym e

-- what a store of the chosen item settles: v at a' is its low w bits at a
pub settling : (m m' : List ℕ) (a a' w : ℕ) (go : Bool) (new : Made ℕ) (f old item raised v : ℕ) → a' ≡ a → v ≡ item % 2 ^ w
    → old ≡ field (size m) a' w (num m) → item ≡ cond go new.item old → raised ≡ cond go new.flags 0 → Kept m a' w v m'
    → Settled m a w go new f m' (bit_or f raised)
settling m m' a a' w go new f old item raised v e ev eo ei er kp =
    let kp' : Kept m a w v m' = rw e at kp in
    record {
      kept = record { as_long = kp'.as_long; holds = kp'.holds ∙ ap (λ (y : ℕ). store (size m) a w y (num m)) (ev ∙ ap (λ (y : ℕ). y % 2 ^ w) ei ∙ chosen go) };
      sets = ap (bit_or f) er;
    }
  where
    chosen : (t : Bool) → cond t new.item old % 2 ^ w ≡ cond t (new.item % 2 ^ w) (field (size m) a w (num m))
    chosen true = refl
    chosen false = ap (λ (y : ℕ). y % 2 ^ w) (eo ∙ ap (λ (p : ℕ). field (size m) p w (num m)) e) ∙ mod-eq_of_lt (field_lt (size m) a w (num m))

-- a turn of the loops that only move bits or bytes
pub taken_turn : (c w : ℕ) (g : ℕ → Place) (m₀ m m' : List ℕ) (f₀ f from k v : ℕ) → length m ≡ length m₀
    → worked (num m) f ≡ turns (taken_shape c w g) (size m₀) from k (worked (num m₀) f₀)
    → v ≡ value_at (size m) w (g (from + k)) (num m) → v < 2 ^ w → Kept m (c + (from + k) * w) w v m'
    → worked (num m') f ≡ turns (taken_shape c w g) (size m₀) from (k + 1) (worked (num m₀) f₀)
unfolding item_at flags_at stored_at made_at
taken_turn c w g m₀ m m' f₀ f from k v len inv ev hv kp =
    more (taken_shape c w g) m₀ m m' f₀ f f from k len inv
    (ap₂ worked
    (kp.holds ∙ ap (λ (y : ℕ). store (size m) (c + (from + k) * w) w y (num m)) (sym (mod-eq_of_lt hv) ∙ ap (λ (y : ℕ). y % 2 ^ w) ev))
    (sym (or_zero_r f)))

-- a turn of the loops of bytes
pub byte_turn : (kc : ℕ) (g : ℕ → Place) (m₀ m : List ℕ) (f₀ f from j v : ℕ) → Bytes m → length m ≡ length m₀
    → worked (num m) f ≡ turns (taken_shape (8 * kc) 8 g) (size m₀) from j (worked (num m₀) f₀)
    → v ≡ value_at (size m) 8 (g (from + j)) (num m) → v < 256 → kc + (from + j) < length m
    → worked (num (set m (kc + (from + j)) v)) f ≡ turns (taken_shape (8 * kc) 8 g) (size m₀) from (j + 1) (worked (num m₀) f₀)
byte_turn kc g m₀ m f₀ f from j v hb len inv ev hv lt =
    let e : 8 * (kc + (from + j)) ≡ 8 * kc + (from + j) * 8 = omega arith in
    taken_turn (8 * kc) 8 g m₀ m (set m (kc + (from + j)) v) f₀ f from j v len inv ev hv
    (record { as_long = length-set m (kc + (from + j)) v; holds = byte_store m (kc + (from + j)) v hb hv lt ∙ ap (λ (a : ℕ). store (size m) a 8 v (num m)) e })

-- a byte of memory by its place
pub byte_read : (m : List ℕ) (k i : ℕ) → Bytes m → k + i < length m → get_or m (k + i) 0 ≡ field (size m) (8 * k + i * 8) 8 (num m)
byte_read m k i hb lt =
    let e : 8 * (k + i) ≡ 8 * k + i * 8 = omega arith in
    sym (byte_field m (k + i) hb lt) ∙ ap (λ (a : ℕ). field (size m) a 8 (num m)) e

-- shapes that agree at the items worked do the same
pub alike : (c w : ℕ) (g g' : ℕ → Place) (L from n : ℕ) (u : MemoryAndFlags) → ((j : ℕ) → j < n → g (from + j) ≡ g' (from + j)) → turns (taken_shape c w g) L from n u ≡ turns (taken_shape c w g') L from n u
unfolding item_at flags_at stored_at made_at
alike c w g g' L from zero u e = refl
alike c w g g' L from (suc n) u e =
    ap (λ (p : Place). worked (store L (c + (from + n) * w) w (value_at L w p (turns (taken_shape c w g) L from n u).memory % 2 ^ w) (turns (taken_shape c w g) L from n u).memory) (bit_or (turns (taken_shape c w g) L from n u).flags 0)) (e n (omega arith))
    ∙ ap (turn (taken_shape c w g') L (from + n)) (alike c w g g' L from n u (λ j h. e j (omega arith)))
