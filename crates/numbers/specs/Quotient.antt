-- A quotient z / d of a signed number by a positive one, rounded in three ways: section 4 of docs/MACHINE.md. (negsuc n is -1 - n.)
-- What each rounding means, z = q d + r with r on its side of zero, is proved in proofs/Quotients.antt.
use Rattle.std.specs.Prelude.{ℕ, suc, ◌/◌, ℤ, pos, negsuc, neg_ℤ}
use Rattle.numbers.specs.declared.division.Rounding.{Rounding}
use Rattle.numbers.specs.declared.division.Rounding.TheVariants.{Zero, Down, Up}

-- §4.5: toward zero, as truncate takes it.
abbrev pub toward_zero : ℤ → ℕ → ℤ
toward_zero (pos n) d = pos (n / d)
toward_zero (negsuc n) d = neg_ℤ (pos (suc n / d))

-- §4.5: down, as floor and contract take it.
abbrev pub down : ℤ → ℕ → ℤ
down (pos n) d = pos (n / d)
down (negsuc n) d = negsuc (n / d)

-- §4.5: up, as ceiling takes it: down on the other side of zero.
abbrev pub up : ℤ → ℕ → ℤ
up z d = neg_ℤ (down (neg_ℤ z) d)

-- §4.5: rounded as asked.
abbrev pub quotient : Rounding → ℤ → ℕ → ℤ
quotient Zero z d = toward_zero z d
quotient Down z d = down z d
quotient Up z d = up z d
