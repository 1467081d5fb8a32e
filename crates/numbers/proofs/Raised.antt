-- The flags that a result sets are among the three that exist.
use mathlib.Core.Path.{◌≡◌, refl}
use mathlib.Core.Bool.{Bool, true, false, cond}
use Prim.Native.Nat.{ℕ}
use lib.Bits.{bit_or}
use lib.IntN.{ℤ, pos, neg_ℤ, ◌+ℤ◌}
use lib.Signed.{le_z, lt_z}
use Rattle.numbers.specs.declared.division.Rounding.{Rounding}
use Rattle.numbers.specs.declared.flags.Made.{Made}
use Rattle.numbers.specs.Flags.{all_flags}
use Rattle.numbers.specs.Number.{exponent_at, coefficient_at, indefinite, machine_zero}
use Rattle.numbers.specs.Whole.{whole_at}
use Rattle.numbers.specs.Contract.{addend, places, narrowed, contracted_at, contract_of}

-- Flags f are among the three.
abbrev pub Among : ℕ → Type 0
Among f = bit_or f all_flags ≡ all_flags

-- what holds of both holds of the one that a test takes
pub either : {A : Type 0} (P : A → Type 0) (b : Bool) {x y : A} → P x → P y → P (cond b x y)
either P true p q = p
either P false p q = q

abbrev AmongOf : Made ℕ → Type 0
AmongOf r = Among r.flags

pub whole_flags : (e h : ℕ) (how : Rounding) (w : ℕ) → Among (whole_at e h how w).flags
unfolding whole_at
whole_flags e h how w =
    either AmongOf (machine_zero e h w) refl
    (either AmongOf (lt_z (exponent_at e h w) (pos 0)) refl (either Among (indefinite e h w) refl refl))

narrowed_flags : (x s : ℤ) (g : ℕ) → AmongOf (narrowed x s g)
unfolding narrowed
narrowed_flags x s g = either AmongOf (le_z (pos 0x70) (x +ℤ pos g)) refl refl

pub contract_flags : (rounded : Bool) (w : ℕ) → Among (contract_of rounded w).flags
unfolding contract_of contracted_at
contract_flags rounded w =
    let x = exponent_at 15 47 w in
    let s = coefficient_at 47 w +ℤ addend rounded in
    either AmongOf (le_z (pos 0x7000) x) refl
    (either AmongOf (le_z (pos 0x58) x) refl (either AmongOf (le_z (neg_ℤ (pos 0x88)) x) (narrowed_flags x s (places s)) refl))
