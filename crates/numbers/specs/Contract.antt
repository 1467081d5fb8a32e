-- Contract and rounded contract of a word to a half word (codes 76, 77): section 4 of docs/MACHINE.md.
use Rattle.std.specs.Prelude.{ℕ, ◌+◌, ◌^◌, Bool, cond, ℤ, pos, neg_ℤ, ◌+ℤ◌}
use Rattle.std.specs.Int.Signed.{le_z}
use Rattle.numbers.specs.declared.flags.Made.{Made}
use Rattle.numbers.specs.Number.{exponent_at, coefficient_at, joined_at}
use Rattle.numbers.specs.Quotient.{down}
use Rattle.numbers.specs.Flags.{flag, with_flags}

-- §4.8: the half words for indefinite and for machine zero.
abbrev pub indefinite_half : ℕ
indefinite_half = 0x7000_0000

abbrev pub machine_zero_half : ℕ
machine_zero_half = 0x8000_0000

-- §4.8: indefinite because the exponent is too large: flags 42 and 46.
abbrev pub overflowed : Made ℕ
overflowed = with_flags indefinite_half (flag 42 + flag 46)

-- §4.10: what is added to the coefficient before it is narrowed.
abbrev pub addend : Bool → ℤ
addend rounded = cond rounded (pos (2 ^ 23)) (pos 0)

-- §4.9, §4.10: the places by which the coefficient s is narrowed: 24, and 25 from 2^47 on.
abbrev pub places : ℤ → ℕ
places s = cond (le_z (pos (2 ^ 47)) s) 25 24

-- §4.9, §4.10: exponent x + g and coefficient s over 2^g, rounded down; with an exponent of 70 (hex) or more it is indefinite.
unfoldable pub narrowed : ℤ → ℤ → ℕ → Made ℕ
narrowed x s g =
    cond (le_z (pos 0x70) (x +ℤ pos g)) overflowed
    (with_flags (joined_at 7 23 (record { exponent = x +ℤ pos g; coefficient = down s (2 ^ g) })) 0)

-- §4.8: by the exponent x: from 7000 on, from 0058 on, from FF78 (-88 hex) on, and below. s is the coefficient with its addend.
unfoldable pub contracted_at : ℤ → ℤ → Made ℕ
contracted_at x s =
    cond (le_z (pos 0x7000) x) (with_flags indefinite_half (flag 46))
    (cond (le_z (pos 0x58) x) overflowed
    (cond (le_z (neg_ℤ (pos 0x88)) x) (narrowed x s (places s))
    (with_flags machine_zero_half (flag 43))))

-- §5.14, §5.15: contract (code 76) of a word, or with rounding (code 77).
unfoldable pub contract_of : Bool → ℕ → Made ℕ
contract_of rounded w = contracted_at (exponent_at 15 47 w) (coefficient_at 47 w +ℤ addend rounded)
