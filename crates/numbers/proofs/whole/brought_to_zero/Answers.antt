-- `numbers::whole::brought_to_zero` meets its contract.
use mathlib.Core.Path.{◌≡◌, ◌∙◌, sym, ap}
use Prim.Native.Nat.{ℕ, ◌+◌, ◌^◌}
use native.Mathlib.Omega.{arith}
use lib.IntN.{nat_abs, ℤ, pos}
use lib.Signed.{mag}
use Rattle.std.proofs.Common.{rules}
use Rattle.numbers.proofs.Integers.{back, nat_abs_lem}
use Rattle.numbers.specs.Number.{joined_at}
use Rattle.numbers.specs.Quotient.{quotient}
use Rattle.numbers.specs.Whole.{brought_to_zero}
use Rattle.numbers.proofs.whole.brought_to_zero.Goals as goal

pub returns : goal.returns
unfolding brought_to_zero
returns c = let n = c.args.n in
    let k : c.magnitude-k.result + 1 ≡ nat_abs n.exponent =
    ap (λ (j : ℕ). j + 1) (c.magnitude-k.ensures ∙ ap mag (back n.exponent (omega arith))) ∙ sym (nat_abs_lem n.exponent c.requires.0) in
    -- of whatever rounding is handed on: what is asked is the quotient by `how`, and no name of it
    let x = back n.coefficient (omega arith) in
    let q : c.divide.result ≡ quotient c.args.how n.coefficient (2 ^ nat_abs n.exponent) = search rules in
    c.word.ensures
    ∙ ap (λ (z : ℤ). joined_at 15 47 (record { exponent = pos 0; coefficient = z })) (back _ c.divide.type_inv ∙ q)
