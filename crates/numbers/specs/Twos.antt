-- Two's complement of h + 1 bits, of which the leftmost is the sign: section 4 of docs/MACHINE.md. h is 47 or 23 for a coefficient, 15 or 7 for an
-- exponent, 63 for a word that is shifted.
use Rattle.std.specs.Prelude.{ℕ, ◌+◌, ◌-◌, ◌%◌, ◌^◌, cond, ltb, ℤ, pos, negsuc, ◌-ℤ◌}

-- §4.1: what the bits x stand for: themselves while they are below 2^h, else 2^(h + 1) less.
unfoldable pub signed_at : ℕ → ℕ → ℤ
signed_at h x = cond (ltb x (2 ^ h)) (pos x) (pos x -ℤ pos (2 ^ (h + 1)))

-- §4.1: the bits that stand for z; of a z that needs more bits, its rightmost ones. (negsuc n is -1 - n.)
abbrev pub bits_at : ℕ → ℤ → ℕ
bits_at h (pos n) = n % 2 ^ (h + 1)
bits_at h (negsuc n) = 2 ^ (h + 1) - 1 - n % 2 ^ (h + 1)
