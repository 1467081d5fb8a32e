-- The shift of a word w by the right byte of another (code 8A): section 4 of docs/MACHINE.md.
use Rattle.std.specs.Prelude.{ℕ, ◌+◌, ◌-◌, ◌*◌, ◌/◌, ◌%◌, ◌^◌, cond, ltb}
use Rattle.numbers.specs.Twos.{signed_at, bits_at}
use Rattle.numbers.specs.Quotient.{down}

-- §4.11: rotated to the left by k places.
unfoldable pub rotated : ℕ → ℕ → ℕ
rotated w k = (w * 2 ^ k) % 2 ^ 64 + w / 2 ^ (64 - k)

-- §4.11: moved to the right by k places with copies of the sign: the signed word over 2^k, rounded down.
unfoldable pub moved_right : ℕ → ℕ → ℕ
moved_right w k = bits_at 63 (down (signed_at 63 w) (2 ^ k))

-- §4.11: by the count y, in hex: below 40 rotated, from C1 on moved to the right by 100 less y, between them left alone.
abbrev pub shifted_by : ℕ → ℕ → ℕ
shifted_by w y = cond (ltb y 0x40) (rotated w y) (cond (ltb y 0xC1) w (moved_right w (0x100 - y)))

-- §4.11: the count is the right byte of b.
unfoldable pub shift_of : ℕ → ℕ → ℕ
shift_of w b = shifted_by w (b % 2 ^ 8)
