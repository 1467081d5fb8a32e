-- What the contracts of `memory` and `bytes` come to, for every width n and every place. That the length is kept is `as_long` of `Kept` itself; item by
-- item and all at once are in `Turns`.
use mathlib.Core.Path.{◌≡◌, sym, ap, ap₂, ◌∙◌}
use mathlib.Core.List.{List}
use Prim.Native.Nat.{ℕ, ◌+◌, ◌*◌, ◌^◌, ◌≤◌, ◌<◌}
use lib.ListN.{length}
use Rattle.fields.specs.Field.{field, store, Apart}
use Rattle.fields.specs.Bytes.{num, size, Bytes}
use Rattle.fields.specs.Memory.{Kept}
use Rattle.fields.proofs.Places.{field_store, field_other, store_comm, store_store}
use Rattle.fields.proofs.Lists.{num_inj}

as_wide : (m m' : List ℕ) → length m' ≡ length m → size m' ≡ size m
as_wide m m' e = ap (λ (k : ℕ). 8 * k) e

-- the contract of a store leaves one outcome
pub kept_unique : (m : List ℕ) (a n v : ℕ) (p q : List ℕ) → Bytes p → Bytes q → Kept m a n v p → Kept m a n v q → p ≡ q
kept_unique m a n v p q hp hq kp kq = num_inj p q hp hq (kp.as_long ∙ sym kq.as_long) (kp.holds ∙ sym kq.holds)

-- what is stored is read
pub stored_is_read : (m m' : List ℕ) (a n v : ℕ) → v < 2 ^ n → Kept m a n v m' → field (size m') a n (num m') ≡ v
stored_is_read m m' a n v h k = ap₂ (λ (L x : ℕ). field L a n x) (as_wide m m' k.as_long) k.holds ∙ field_store (size m) a n v (num m) h

-- what is apart is untouched
pub apart_untouched : (m m' : List ℕ) (a n v b j : ℕ) → v < 2 ^ n → a + n ≤ size m → b + j ≤ size m → Apart a n b j → Kept m a n v m' → field (size m') b j (num m') ≡ field (size m) b j (num m)
apart_untouched m m' a n v b j h la lb d k =
    ap₂ (λ (L x : ℕ). field L b j x) (as_wide m m' k.as_long) k.holds ∙ field_other (size m) a n v b j (num m) h la lb d

-- a store to what a store left, as one store to the number at the start
after : {m p p' : List ℕ} (a n v b j u : ℕ) → Kept m a n v p → Kept p b j u p' → num p' ≡ store (size m) b j u (store (size m) a n v (num m))
after {m} {p} a n v b j u k k' = k'.holds ∙ ap₂ (λ (L x : ℕ). store L b j u x) (as_wide m p k.as_long) k.holds

-- stores apart commute
pub apart_commute : (m p p' q q' : List ℕ) (a n v b j u : ℕ) → v < 2 ^ n → u < 2 ^ j → a + n ≤ size m → b + j ≤ size m → Apart a n b j → Bytes p' → Bytes q'
    → Kept m a n v p → Kept p b j u p' → Kept m b j u q → Kept q a n v q' → p' ≡ q'
apart_commute m p p' q q' a n v b j u hv hu la lb d hp hq kp kp' kq kq' =
    num_inj p' q' hp hq (kp'.as_long ∙ kp.as_long ∙ sym (kq'.as_long ∙ kq.as_long))
    (after a n v b j u kp kp' ∙ sym (store_comm (size m) a n v b j u (num m) hv hu la lb d) ∙ sym (after b j u a n v kq kq'))

-- the later store stands
pub later_stands : (m p p' : List ℕ) (a n v w : ℕ) → v < 2 ^ n → w < 2 ^ n → Kept m a n v p → Kept p a n w p' → Kept m a n w p'
later_stands m p p' a n v w hv hw k k' = record {
  as_long = k'.as_long ∙ k.as_long;
  holds = after a n v a n w k k' ∙ store_store (size m) a n w v (num m) hw hv;
}
