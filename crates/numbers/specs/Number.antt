-- A number is an exponent of e + 1 bits and, to its right, a coefficient of h + 1: (15, 47) in a word, (7, 23) in a half word. Section 4 of
-- docs/MACHINE.md.
use Rattle.std.specs.Prelude.{ℕ, ◌+◌, ◌-◌, ◌*◌, ◌/◌, ◌%◌, ◌^◌, Bool, eqb, ℤ}
use Rattle.numbers.specs.declared.number.Number.{Number}
use Rattle.numbers.specs.Twos.{signed_at, bits_at}

-- §4.2: the coefficient of the number w: its right h + 1 bits, signed.
unfoldable pub coefficient_at : ℕ → ℕ → ℤ
coefficient_at h w = signed_at h (w % 2 ^ (h + 1))

-- §4.2: its exponent: the e + 1 bits left of those, signed.
unfoldable pub exponent_at : ℕ → ℕ → ℕ → ℤ
exponent_at e h w = signed_at e (w / 2 ^ (h + 1) % 2 ^ (e + 1))

-- §4.2: a number taken into its two parts.
abbrev pub split_at : ℕ → ℕ → ℕ → Number
split_at e h w = record { exponent = exponent_at e h w; coefficient = coefficient_at h w }

-- §4.1, §4.2: two parts put together to a number; a part that is too large is cut to its rightmost bits.
unfoldable pub joined_at : ℕ → ℕ → Number → ℕ
joined_at e h n = bits_at e n.exponent * 2 ^ (h + 1) + bits_at h n.coefficient

-- §4.3: the leftmost hex digit, which alone tells indefinite and machine zero.
abbrev pub digit_at : ℕ → ℕ → ℕ → ℕ
digit_at e h w = w / 2 ^ (e + h - 2)

-- §4.3: 7 is indefinite.
abbrev pub indefinite : ℕ → ℕ → ℕ → Bool
indefinite e h w = eqb (digit_at e h w) 7

-- §4.3: 8 is machine zero.
abbrev pub machine_zero : ℕ → ℕ → ℕ → Bool
machine_zero e h w = eqb (digit_at e h w) 8
