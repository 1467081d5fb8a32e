-- Fields put side by side in a word.
use mathlib.Core.Path.{◌≡◌}
use Prim.Native.Nat.{ℕ, ◌+◌, ◌*◌, ◌%◌, ◌^◌, ◌≤◌, ◌<◌}
use lib.Bits.{bit_or, or_shifted}
use lib.Pow.{shl_exact}

-- a of j bits beside b of k, as a shift and an or make it
pub beside : (j k a b : ℕ) → j + k ≤ 64 → a < 2 ^ j → b < 2 ^ k → bit_or ((a * 2 ^ k) % 2 ^ 64) b ≡ a * 2 ^ k + b
beside j k a b l x y = rw (shl_exact j k 64 x l) (or_shifted a k b y)
