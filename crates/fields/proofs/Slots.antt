-- Reading and writing a slot of a number, over any width n and any s bits to its right. The one idea is `put_unique`: a number that has the same left
-- part, v in the slot and the same right part is the number written.
use mathlib.Core.Path.{◌≡◌, refl, sym, ap, ap₂, ◌∙◌}
use Prim.Native.Nat.{ℕ, ◌+◌, ◌-◌, ◌*◌, ◌/◌, ◌%◌, ◌^◌, ◌≤◌, ◌<◌}
use native.Mathlib.Nat.{mod-lt, div-eq_of_lt, zero-mul, zero-add, add-mul}
use native.Mathlib.Omega.{arith}
use lib.Pow.{pow_pos, shr-shr, high, low, split, field, mod-mod-pow, mod-pow-add}
use Rattle.fields.specs.Slot.{get, put}

pub get_lt : (s n x : ℕ) → get s n x < 2 ^ n
get_lt s n x = mod-lt (x / 2 ^ s) (pow_pos n)

-- ---- the three parts of a number that was written: left of the slot, the slot, right of the slot

put_right : (s n v x : ℕ) → put s n v x % 2 ^ s ≡ x % 2 ^ s
put_right s n v x = low _ s (mod-lt x (pow_pos s))

put_shr : (s n v x : ℕ) → put s n v x / 2 ^ s ≡ x / 2 ^ (s + n) * 2 ^ n + v
put_shr s n v x = high _ s (mod-lt x (pow_pos s))

put_left : (s n v x : ℕ) → v < 2 ^ n → put s n v x / 2 ^ (s + n) ≡ x / 2 ^ (s + n)
put_left s n v x h = sym (shr-shr (put s n v x) s n) ∙ ap (λ (y : ℕ). y / 2 ^ n) (put_shr s n v x) ∙ high _ n h

-- what was written is read
pub get_put : (s n v x : ℕ) → v < 2 ^ n → get s n (put s n v x) ≡ v
get_put s n v x h = ap (λ (y : ℕ). y % 2 ^ n) (put_shr s n v x) ∙ low _ n h

-- a number that has the three parts is the number written
pub put_unique : (s n v x y : ℕ) → y / 2 ^ (s + n) ≡ x / 2 ^ (s + n) → get s n y ≡ v → y % 2 ^ s ≡ x % 2 ^ s → y ≡ put s n v x
put_unique s n v x y l g r =
    sym (split y s)
    ∙ ap₂ (λ (p q : ℕ). p * 2 ^ s + q) (sym (split (y / 2 ^ s) n) ∙ ap₂ (λ (p q : ℕ). p * 2 ^ n + q) (shr-shr y s n ∙ l) g) r

-- ---- what stands left of the slot, and what stands right of it, is as it was

pub left : (s n v x t : ℕ) → v < 2 ^ n → s + n ≤ t → put s n v x / 2 ^ t ≡ x / 2 ^ t
left s n v x t h le =
    let e : t ≡ (s + n) + (t - (s + n)) = omega arith in
    rw e (sym (shr-shr (put s n v x) (s + n) (t - (s + n))) ∙ ap (λ (y : ℕ). y / 2 ^ (t - (s + n))) (put_left s n v x h) ∙ shr-shr x (s + n) (t - (s + n)))

-- a number of k bits stays one
pub put_lt : (s n v k x : ℕ) → v < 2 ^ n → s + n ≤ k → x < 2 ^ k → put s n v x < 2 ^ k
put_lt s n v k x h le hx =
    let z : put s n v x / 2 ^ k ≡ 0 = left s n v x k h le ∙ div-eq_of_lt hx in
    let e : put s n v x ≡ put s n v x % 2 ^ k = sym (split (put s n v x) k) ∙ ap (λ (y : ℕ). y * 2 ^ k + put s n v x % 2 ^ k) z ∙ ap (λ (y : ℕ). y + put s n v x % 2 ^ k) (zero-mul (2 ^ k)) ∙ zero-add (put s n v x % 2 ^ k) in
    rw e (mod-lt (put s n v x) (pow_pos k))

pub right : (s n v x t : ℕ) → t ≤ s → put s n v x % 2 ^ t ≡ x % 2 ^ t
right s n v x t le =
    let e : s ≡ (s - t) + t = omega arith in
    sym (mod-mod-pow (put s n v x) (s - t) t)
    ∙ ap (λ (y : ℕ). y % 2 ^ t) (ap (λ (k : ℕ). put s n v x % 2 ^ k) (sym e) ∙ put_right s n v x ∙ ap (λ (k : ℕ). x % 2 ^ k) e)
    ∙ mod-mod-pow x (s - t) t

pub get_left : (s n v x t m : ℕ) → v < 2 ^ n → s + n ≤ t → get t m (put s n v x) ≡ get t m x
get_left s n v x t m h le = ap (λ (y : ℕ). y % 2 ^ m) (left s n v x t h le)

pub get_right : (s n v x t m : ℕ) → t + m ≤ s → get t m (put s n v x) ≡ get t m x
get_right s n v x t m le =
    sym (field (put s n v x) m t) ∙ ap (λ (y : ℕ). y / 2 ^ t) (right s n v x (m + t) (omega arith)) ∙ field x m t

-- ---- a slot of what stands left of k bits is a slot of the whole, further left

pub get_shr : (s n k x : ℕ) → get s n (x / 2 ^ k) ≡ get (k + s) n x
get_shr s n k x = ap (λ (y : ℕ). y % 2 ^ n) (shr-shr x k s)

pub put_above : (s n v k x : ℕ) → v < 2 ^ n → put (k + s) n v x / 2 ^ k ≡ put s n v (x / 2 ^ k)
put_above s n v k x h =
    put_unique s n v (x / 2 ^ k) (put (k + s) n v x / 2 ^ k)
    (shr-shr (put (k + s) n v x) k (s + n) ∙ left (k + s) n v x (k + (s + n)) h (omega arith) ∙ sym (shr-shr x k (s + n)))
    (get_shr s n k (put (k + s) n v x) ∙ get_put (k + s) n v x h)
    (get_right (k + s) n v x k s (omega arith))

-- ---- two slots apart: the order of writing is the same

pub put_comm : (s n v t m w x : ℕ) → v < 2 ^ n → w < 2 ^ m → s + n ≤ t → put t m w (put s n v x) ≡ put s n v (put t m w x)
put_comm s n v t m w x h hw le =
    put_unique s n v (put t m w x) (put t m w (put s n v x))
    (let e : t ≡ (s + n) + (t - (s + n)) = omega arith in
    rw e (put_above (t - (s + n)) m w (s + n) (put s n v x) hw ∙ ap (put (t - (s + n)) m w) (put_left s n v x h) ∙ sym (put_above (t - (s + n)) m w (s + n) x hw)))
    (get_right t m w (put s n v x) s n le ∙ get_put s n v x h)
    (right t m w (put s n v x) s (omega arith) ∙ put_right s n v x ∙ sym (right t m w x s (omega arith)))

-- ---- the same slot twice

pub put_put : (s n v w x : ℕ) → v < 2 ^ n → w < 2 ^ n → put s n v (put s n w x) ≡ put s n v x
put_put s n v w x hv hw =
    put_unique s n v x (put s n v (put s n w x))
    (put_left s n v (put s n w x) hv ∙ put_left s n w x hw)
    (get_put s n v (put s n w x) hv)
    (put_right s n v (put s n w x) ∙ put_right s n w x)

-- a slot that is written with what it holds
pub put_get : (s n x : ℕ) → put s n (get s n x) x ≡ x
put_get s n x = sym (put_unique s n (get s n x) x x refl refl refl)

-- to write a slot is to take off what it holds and to add v, both moved to its place
pub put_sum : (s n v x : ℕ) → x - get s n x * 2 ^ s + v * 2 ^ s ≡ put s n v x
put_sum s n v x =
    omega (arith, put_get s n x, add-mul (x / 2 ^ (s + n) * 2 ^ n) (get s n x) (2 ^ s), add-mul (x / 2 ^ (s + n) * 2 ^ n) v (2 ^ s))

-- ---- a slot within a slot

get_div : (s n k x : ℕ) → k ≤ n → get s n x / 2 ^ k ≡ get (s + k) (n - k) x
get_div s n k x le =
    let e : n ≡ (n - k) + k = omega arith in
    ap (λ (j : ℕ). x / 2 ^ s % 2 ^ j / 2 ^ k) e ∙ field (x / 2 ^ s) (n - k) k ∙ ap (λ (y : ℕ). y % 2 ^ (n - k)) (shr-shr x s k)

get_mod : (s n k x : ℕ) → k ≤ n → get s n x % 2 ^ k ≡ get s k x
get_mod s n k x le =
    let e : n ≡ (n - k) + k = omega arith in
    ap (λ (j : ℕ). x / 2 ^ s % 2 ^ j % 2 ^ k) e ∙ mod-mod-pow (x / 2 ^ s) (n - k) k

pub get_get : (s n t m x : ℕ) → t + m ≤ n → get t m (get s n x) ≡ get (s + t) m x
get_get s n t m x le =
    ap (λ (y : ℕ). y % 2 ^ m) (get_div s n t x (omega arith)) ∙ get_mod (s + t) (n - t) m x (omega arith)

-- a slot of which a part was written
pub get_around : (s n t m w x : ℕ) → w < 2 ^ m → t + m ≤ n → get s n (put (s + t) m w x) ≡ put t m w (get s n x)
get_around s n t m w x h le =
    put_unique t m w (get s n x) (get s n (put (s + t) m w x))
    (get_div s n (t + m) (put (s + t) m w x) le ∙ get_left (s + t) m w x (s + (t + m)) (n - (t + m)) h (omega arith) ∙ sym (get_div s n (t + m) x le))
    (get_get s n t m (put (s + t) m w x) le ∙ get_put (s + t) m w x h)
    (get_mod s n t (put (s + t) m w x) (omega arith) ∙ get_right (s + t) m w x s t (omega arith) ∙ sym (get_mod s n t x (omega arith)))

-- to write a part of a slot is to write the slot with that part changed
pub put_inside : (s n t m w x : ℕ) → w < 2 ^ m → t + m ≤ n → put (s + t) m w x ≡ put s n (put t m w (get s n x)) x
put_inside s n t m w x h le =
    put_unique s n (put t m w (get s n x)) x (put (s + t) m w x)
    (left (s + t) m w x (s + n) h (omega arith))
    (get_around s n t m w x h le)
    (right (s + t) m w x s (omega arith))

-- ---- two slots side by side are one

pub get_join : (s m n x : ℕ) → get s (m + n) x ≡ get (s + n) m x * 2 ^ n + get s n x
get_join s m n x = mod-pow-add (x / 2 ^ s) m n ∙ ap (λ (y : ℕ). y % 2 ^ m * 2 ^ n + x / 2 ^ s % 2 ^ n) (shr-shr x s n)

pub put_join : (s m n v w x : ℕ) → v < 2 ^ m → w < 2 ^ n → put s n w (put (s + n) m v x) ≡ put s (m + n) (v * 2 ^ n + w) x
put_join s m n v w x hv hw =
    let y : ℕ = put (s + n) m v x in
    put_unique s (m + n) (v * 2 ^ n + w) x (put s n w y)
    (left s n w y (s + (m + n)) hw (omega arith) ∙ left (s + n) m v x (s + (m + n)) hv (omega arith))
    (get_join s m n (put s n w y) ∙ ap₂ (λ (p q : ℕ). p * 2 ^ n + q) (get_left s n w y (s + n) m hw (omega arith) ∙ get_put (s + n) m v x hv) (get_put s n w y hw))
    (put_right s n w y ∙ right (s + n) m v x s (omega arith))
