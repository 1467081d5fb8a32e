-- From an address to an index of the slice and back: o bits stand left of address a, and a byte begins there.
use mathlib.Core.Path.{◌≡◌, ap, ◌∙◌}
use mathlib.Core.List.{List}
use Prim.Native.Nat.{ℕ, ◌-◌, ◌*◌, ◌/◌}
use native.Mathlib.Omega.{arith}
use Rattle.fields.specs.Field.{field, store}
use Rattle.fields.specs.Bytes.{num, size}
use Rattle.fields.specs.Memory.{origin, AtByte, field_at, Kept, Stored}

whole_bytes : {m : List ℕ} {a n o : ℕ} → AtByte m a n → o ≡ a - origin → 8 * (o / 8) ≡ a - origin
whole_bytes h e = omega arith

pub read_there : {m : List ℕ} {a n o r : ℕ} → AtByte m a n → o ≡ a - origin → r ≡ field (size m) (8 * (o / 8)) n (num m) → r ≡ field_at m a n
read_there {m} {n = n} h e q = q ∙ ap (λ (k : ℕ). field (size m) k n (num m)) (whole_bytes h e)

pub kept_there : {m m' : List ℕ} {a n o v : ℕ} → AtByte m a n → o ≡ a - origin → Kept m (8 * (o / 8)) n v m' → Stored m a n v m'
kept_there {m} {n = n} {v = v} h e k = record {
  as_long = k.as_long;
  holds = k.holds ∙ ap (λ (o : ℕ). store (size m) o n v (num m)) (whole_bytes h e);
}
