-- Instructions on the parts of words (codes 63, 67, 7A, 7B, 7C): sections 2, 4 and 5 of docs/MACHINE.md.
use Rattle.std.specs.Prelude.{ℕ, ◌+◌, ◌-◌, ◌*◌, ◌/◌, ◌%◌, ◌^◌}
use Rattle.numbers.specs.Twos.{bits_at}
use Rattle.numbers.specs.Number.{exponent_at}

-- §2.2: the low 48 of a word.
abbrev pub low48 : ℕ → ℕ
low48 w = w % 2 ^ 48

-- §2.2: the left 16 of r in front of n, which has 48 bits.
abbrev pub left16_with : ℕ → ℕ → ℕ
left16_with r n = r / 2 ^ 48 * 2 ^ 48 + n

-- §4.12: the low 48 added without the carry, behind the left 16 of r (code 63).
abbrev pub sum_of : ℕ → ℕ → ℕ
sum_of r s = left16_with r (low48 (low48 r + low48 s))

-- §4.13: the low 48 subtracted without the borrow, behind the left 16 of r (code 67).
abbrev pub difference_of : ℕ → ℕ → ℕ
difference_of r s = left16_with r (low48 (low48 r + (2 ^ 48 - low48 s)))

-- §5.17: the exponent as a number of 48 bits (code 7A).
abbrev pub exponent_word : ℕ → ℕ
exponent_word w = bits_at 47 (exponent_at 15 47 w)

-- §5.18: the right 16 of r in front of the low 48 of s (code 7B).
abbrev pub packed_of : ℕ → ℕ → ℕ
packed_of r s = r % 2 ^ 16 * 2 ^ 48 + low48 s

-- §5.19: the left 16 of r at the right end (code 7C).
abbrev pub left16_of : ℕ → ℕ
left16_of r = r / 2 ^ 48
