-- Truncate, floor and ceiling of a number (codes 70, 71, 72), over its widths: section 4 of docs/MACHINE.md.
use Rattle.std.specs.Prelude.{ℕ, ◌^◌, cond, pos, nat_abs}
use Rattle.std.specs.Int.Signed.{lt_z}
use Rattle.numbers.specs.declared.division.Rounding.{Rounding}
use Rattle.numbers.specs.declared.division.Rounding.TheVariants.{Zero, Down, Up}
use Rattle.numbers.specs.declared.flags.Made.{Made}
use Rattle.numbers.specs.declared.number.Number.{Number}
use Rattle.numbers.specs.Number.{exponent_at, split_at, joined_at, indefinite, machine_zero}
use Rattle.numbers.specs.Quotient.{quotient}
use Rattle.numbers.specs.Flags.{flag, with_flags}

-- §4.7: with exponent -k, the coefficient over 2^k, rounded as asked, and exponent 0.
unfoldable pub brought_to_zero : ℕ → ℕ → Rounding → Number → ℕ
brought_to_zero e h how n =
    joined_at e h (record { exponent = pos 0; coefficient = quotient how n.coefficient (2 ^ nat_abs n.exponent) })

-- §4.6, §4.7: of machine zero, zeros; below exponent 0 the quotient; of all others the word itself, with flag 46 if it is indefinite.
unfoldable pub whole_at : ℕ → ℕ → Rounding → ℕ → Made ℕ
whole_at e h how w =
    cond (machine_zero e h w) (with_flags 0 0)
    (cond (lt_z (exponent_at e h w) (pos 0)) (with_flags (brought_to_zero e h how (split_at e h w)) 0)
    (with_flags w (cond (indefinite e h w) (flag 46) 0)))

-- §5.11: truncate (code 70) of a word.
abbrev pub truncate_of : ℕ → Made ℕ
truncate_of w = whole_at 15 47 Zero w

-- §5.12: floor (code 71) of a word.
abbrev pub floor_of : ℕ → Made ℕ
floor_of w = whole_at 15 47 Down w

-- §5.13: ceiling (code 72) of a word.
abbrev pub ceiling_of : ℕ → Made ℕ
ceiling_of w = whole_at 15 47 Up w
