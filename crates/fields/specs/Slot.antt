-- A slot of a number: n of its bits, of which s bits stand to the right. A field (Field.antt) is a slot that is counted from the left.
use Rattle.std.specs.Prelude.{ℕ, ◌+◌, ◌*◌, ◌/◌, ◌%◌, ◌^◌}

-- The n bits of x that have s bits to their right.
abbrev pub get : ℕ → ℕ → ℕ → ℕ
get s n x = x / 2 ^ s % 2 ^ n

-- x with v in the place of those n bits.
abbrev pub put : ℕ → ℕ → ℕ → ℕ → ℕ
put s n v x = (x / 2 ^ (s + n) * 2 ^ n + v) * 2 ^ s + x % 2 ^ s
