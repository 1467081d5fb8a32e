-- The laws of a field and of a store to it, for every width n and place a: each is a law of slots at L - (a + n).
use mathlib.Core.Path.{◌≡◌, refl, sym}
use mathlib.Core.Logic.{⊎_elim}
use Prim.Native.Nat.{ℕ, ◌+◌, ◌-◌, ◌*◌, ◌^◌, ◌≤◌, ◌<◌}
use native.Mathlib.Nat.{mod-one}
use native.Mathlib.Omega.{arith}
use Rattle.fields.specs.Field.{field, store, Apart}
use Rattle.fields.proofs.Slots.{get_lt, get_put, get_left, get_right, put_unique, put_lt, put_comm, put_put, put_join, get_join, put_inside, get_get}

module _ (L : ℕ) where
  pub field_lt : (a n x : ℕ) → field L a n x < 2 ^ n
  field_lt a n x = get_lt (L - (a + n)) n x

  -- a field that was just written reads as written
  pub field_store : (a n v x : ℕ) → v < 2 ^ n → field L a n (store L a n v x) ≡ v
  field_store a n v x h = get_put (L - (a + n)) n v x h

  -- a field apart from the one written is as it was
  pub field_other : (a n v b m x : ℕ) → v < 2 ^ n → a + n ≤ L → b + m ≤ L → Apart a n b m → field L b m (store L a n v x) ≡ field L b m x
  field_other a n v b m x h la lb =
      ⊎_elim
      (λ le. get_right (L - (a + n)) n v x (L - (b + m)) m (omega arith))
      (λ le. get_left (L - (a + n)) n v x (L - (b + m)) m h (omega arith))

  -- two fields apart are written in either order
  pub store_comm : (a n v b m w x : ℕ) → v < 2 ^ n → w < 2 ^ m → a + n ≤ L → b + m ≤ L → Apart a n b m → store L a n v (store L b m w x) ≡ store L b m w (store L a n v x)
  store_comm a n v b m w x hv hw la lb =
      ⊎_elim
      (λ le. put_comm (L - (b + m)) m w (L - (a + n)) n v x hw hv (omega arith))
      (λ le. sym (put_comm (L - (a + n)) n v (L - (b + m)) m w x hv hw (omega arith)))

  -- the later of two writes to one field stands
  pub store_store : (a n v w x : ℕ) → v < 2 ^ n → w < 2 ^ n → store L a n v (store L a n w x) ≡ store L a n v x
  store_store a n v w x hv hw = put_put (L - (a + n)) n v w x hv hw

  -- two fields side by side are one field
  pub field_join : (a m n x : ℕ) → a + (m + n) ≤ L → field L a (m + n) x ≡ field L a m x * 2 ^ n + field L (a + m) n x
  field_join a m n x le =
      let e : L - (a + m) ≡ (L - (a + (m + n))) + n = omega arith in
      let e' : L - ((a + m) + n) ≡ L - (a + (m + n)) = omega arith in
      rw (e, e') (get_join (L - (a + (m + n))) m n x)

  pub store_join : (a m n v w x : ℕ) → v < 2 ^ m → w < 2 ^ n → a + (m + n) ≤ L → store L (a + m) n w (store L a m v x) ≡ store L a (m + n) (v * 2 ^ n + w) x
  store_join a m n v w x hv hw le =
      let e : L - (a + m) ≡ (L - (a + (m + n))) + n = omega arith in
      let e' : L - ((a + m) + n) ≡ L - (a + (m + n)) = omega arith in
      rw (e, e') (put_join (L - (a + (m + n))) m n v w x hv hw)

  -- a field within a field, j bits in: of n bits, numbered from its own left
  pub field_field : (a n j m x : ℕ) → a + n ≤ L → j + m ≤ n → field n j m (field L a n x) ≡ field L (a + j) m x
  field_field a n j m x la lj =
      let e : L - ((a + j) + m) ≡ (L - (a + n)) + (n - (j + m)) = omega arith in
      rw e (get_get (L - (a + n)) n (n - (j + m)) m x (omega arith))

  pub store_inside : (a n j m w x : ℕ) → w < 2 ^ m → a + n ≤ L → j + m ≤ n → store L (a + j) m w x ≡ store L a n (store n j m w (field L a n x)) x
  store_inside a n j m w x h la lj =
      let e : L - ((a + j) + m) ≡ (L - (a + n)) + (n - (j + m)) = omega arith in
      rw e (put_inside (L - (a + n)) n (n - (j + m)) m w x h (omega arith))

  -- no bits at all
  pub field_none : (a x : ℕ) → field L a 0 x ≡ 0
  field_none a x = mod-one _

  pub store_none : (a x : ℕ) → store L a 0 0 x ≡ x
  store_none a x = sym (put_unique (L - (a + 0)) 0 0 x x refl (field_none a x) refl)

  -- a number of L bits stays one
  pub store_lt : (a n v x : ℕ) → v < 2 ^ n → a + n ≤ L → x < 2 ^ L → store L a n v x < 2 ^ L
  store_lt a n v x h le hx = put_lt (L - (a + n)) n v L x h (omega arith) hx
