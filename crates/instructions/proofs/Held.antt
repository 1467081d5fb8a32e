-- A coefficient in a local of a signed type is the number itself.
use mathlib.Core.Path.{◌≡◌}
use Prim.Native.Nat.{ℕ}
use native.Mathlib.Omega.{arith}
use mir.Syntax.{w64}
use mir.Val.{to_z, of_z}
use Rattle.numbers.specs.declared.number.Number.{Number}
use Rattle.numbers.specs.Number.{coefficient_at, split_at}
use Rattle.numbers.proofs.Integers.{back}
use Rattle.numbers.proofs.Complements.{coefficient_small}

pub held : (n : Number) (w : ℕ) → n ≡ split_at 15 47 w → to_z w64 (of_z w64 n.coefficient) ≡ coefficient_at 47 w
held n w e = rw e (back (coefficient_at 47 w) (omega (arith, coefficient_small 47 w (omega arith))))
