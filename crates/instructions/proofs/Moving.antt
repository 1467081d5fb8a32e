-- A move is a copy of what the source has and a fill after it.
use mathlib.Core.Path.{◌≡◌, refl, subst, ap, ◌∙◌}
use mathlib.Core.List.{List}
use Prim.Native.Nat.{ℕ, zero, suc, ◌+◌, ◌-◌, ◌*◌, ◌/◌, ◌%◌, ◌≤◌, ◌<◌, min}
use native.Mathlib.Omega.{arith}
use borrow.Author.Tests.{lt-ltb, le-ltb}
use lib.ListN.{length, length-set, replicate, set}
use lib.Seq.{paste}
use Rattle.std.proofs.lemmas.List.Edits.{paste_none, fill_from_more}
use Rattle.fields.specs.Bytes.{num, size, Bytes}
use Rattle.fields.proofs.Lists.{bytes_set}
use Rattle.instructions.specs.Items.{Place, bits, fixed, MemoryAndFlags, worked, turns}
use Rattle.instructions.specs.Plan.{taken_shape, byte_of}
use Rattle.instructions.specs.Private.Loops.{TurnedQuietly}
use Rattle.instructions.proofs.Agree.{resume}
use Rattle.instructions.proofs.Turning.{alike, byte_turn}

-- n bytes of v, written one after another, are so many turns
record Fills (m : List ℕ) (kc from v f n : ℕ) (m' : List ℕ) : Type 0 where
  bytes : Bytes m'
  as_long : length m' ≡ length m
  does : worked (num m') f ≡ turns (taken_shape (8 * kc) 8 (λ i. fixed v)) (size m) from n (worked (num m) f)

fills : (m : List ℕ) (kc from v f n : ℕ) → Bytes m → v < 256 → kc + (from + n) ≤ length m → Fills m kc from v f n (paste m (kc + from) (replicate n v) n)
fills m kc from v f zero hb hv le =
    subst (Fills m kc from v f 0) (paste_none m (kc + from) (replicate 0 v)) (record { bytes = hb; as_long = refl; does = refl })
fills m kc from v f (suc n) hb hv le =
    let b : List ℕ = paste m (kc + from) (replicate n v) n in
    let h = fills m kc from v f n hb hv (omega arith) in
    let e : n + 1 ≡ suc n = omega arith in
    let e' : kc + (from + n) ≡ kc + from + n = omega arith in
    let p : set b (kc + (from + n)) v ≡ paste m (kc + from) (replicate (suc n) v) (suc n) = ap (λ (q : ℕ). set b q v) e' ∙ (rw e at (fill_from_more m (kc + from) n v (omega arith))) in
    subst (Fills m kc from v f (suc n)) p (record {
      bytes = bytes_set b (kc + (from + n)) v h.bytes hv;
      as_long = length-set b (kc + (from + n)) v ∙ h.as_long;
      does = rw e at (byte_turn kc (λ i. fixed v) m b f f from n v h.bytes h.as_long h.does refl hv (omega (arith, h.as_long)));
    })

pub filled : (m m' : List ℕ) (kc from v n : ℕ) → Bytes m → v < 256 → kc + (from + n) ≤ length m → m' ≡ paste m (kc + from) (replicate n v) n
    → TurnedQuietly (taken_shape (8 * kc) 8 (λ i. fixed v)) from n m m'
filled m m' kc from v n hb hv le e f = let h = fills m kc from v f n hb hv le in record { as_long = ap length e ∙ h.as_long; does = ap (λ (y : List ℕ). worked (num y) f) e ∙ h.does }

pub move_joined : (m m₁ m₂ : List ℕ) (a v r c from count first : ℕ) → (0 < r → a % 8 ≡ 0) → c % 8 ≡ 0 → first ≡ min (r - from) count
    → TurnedQuietly (taken_shape (8 * (c / 8)) 8 (λ i. bits (8 * (a / 8) + i * 8))) from first m m₁
    → TurnedQuietly (taken_shape (8 * (c / 8)) 8 (λ i. fixed v)) (from + first) (count - first) m₁ m₂
    → TurnedQuietly (taken_shape c 8 (byte_of a r v)) from count m m₂
move_joined m m₁ m₂ a v r c from count first ha hc ef d₁ d₂ f =
    let ec : 8 * (c / 8) ≡ c = omega arith in
    let en : first + (count - first) ≡ count = omega arith in
    let w : MemoryAndFlags = worked (num m) f in
    let g : ℕ → Place = byte_of a r v in
    let e₁ : (j : ℕ) → j < first → bits (8 * (a / 8) + (from + j) * 8) ≡ g (from + j) = λ j h.
    let k : a % 8 ≡ 0 = ha (omega arith) in
    rw (lt-ltb (from + j) r (omega arith)) (ap bits (omega arith)) in
    let e₂ : (j : ℕ) → j < count - first → fixed v ≡ g (from + first + j) = λ j h. rw (le-ltb (from + first + j) r (omega arith)) in
    let p₁ : worked (num m₁) f ≡ turns (taken_shape c 8 g) (size m) from first w =
    (rw ec at (d₁ f).does) ∙ alike c 8 (λ i. bits (8 * (a / 8) + i * 8)) g (size m) from first w e₁ in
    let es : size m₁ ≡ size m = ap (λ (n : ℕ). 8 * n) (d₁ f).as_long in
    let p₂ : worked (num m₂) f ≡ turns (taken_shape c 8 g) (size m) (from + first) (count - first) (worked (num m₁) f) =
    (rw (ec, es) at (d₂ f).does) ∙ alike c 8 (λ i. fixed v) g (size m) (from + first) (count - first) (worked (num m₁) f) e₂ in
    record {
      as_long = (d₂ f).as_long ∙ (d₁ f).as_long;
      does = p₂ ∙ ap (turns (taken_shape c 8 g) (size m) (from + first) (count - first)) p₁ ∙ resume (taken_shape c 8 g) (size m) from first (count - first) w ∙ ap (λ (n : ℕ). turns (taken_shape c 8 g) (size m) from n w) en;
    }
