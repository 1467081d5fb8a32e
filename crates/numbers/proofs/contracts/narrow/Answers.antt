-- `numbers::contracts::narrow` meets its contract.
use mathlib.Core.Bool.{true, false}
use mathlib.Core.Path.{◌≡◌, ◌∙◌, ap, ap₂}
use Prim.Native.Nat.{ℕ, ◌<◌, ◌^◌}
use native.Mathlib.Omega.{arith}
use lib.IntN.{ℤ, pos, ◌+ℤ◌}
use lib.Signed.{mag, le_z}
use mir.Facts.{to_z_pos}
use mir.Syntax.{w64}
use mir.Val.{to_z, of_z}
use Rattle.numbers.proofs.Integers.{back, test_of}
use Rattle.numbers.specs.Contract.{narrowed}
use Rattle.numbers.specs.Flags.{with_flags}
use Rattle.numbers.specs.Number.{joined_at}
use Rattle.numbers.specs.Quotient.{down}
use Rattle.numbers.proofs.contracts.narrow.Goals as goal

-- the exponent that is left
grown : (x y : ℤ) (g : ℕ) → mag x < 2 ^ 63 → g < 2 ^ 63 → mag y < 2 ^ 63 → y ≡ to_z w64 (of_z w64 x) +ℤ to_z w64 g → to_z w64 (of_z w64 y) ≡ x +ℤ pos g
grown x y g xs gs ys e = back y ys ∙ e ∙ rw (back x xs, to_z_pos w64 {n = g} gs)

pub returns-then-y-ge112 : goal.returns-then-y-ge112
unfolding narrowed
returns-then-y-ge112 c = rw (test_of (λ (z : ℤ). le_z (pos 0x70) z) c.sum-y.result _ true (grown c.args.x c.sum-y.result c.args.g c.ranges.x.sfits (omega arith) c.sum-y.type_inv c.sum-y.ensures) c.if-y-ge112.true)

pub returns-else-y-ge112 : goal.returns-else-y-ge112
unfolding narrowed
returns-else-y-ge112 c = rw (test_of (λ (z : ℤ). le_z (pos 0x70) z) c.sum-y.result _ false (grown c.args.x c.sum-y.result c.args.g c.ranges.x.sfits (omega arith) c.sum-y.type_inv c.sum-y.ensures) c.if-y-ge112.false)
    (ap (λ (n : ℕ). with_flags n 0)
    (c.half_word.ensures
    ∙ ap₂ (λ (x s : ℤ). joined_at 7 23 (record { exponent = x; coefficient = s })) (grown c.args.x c.sum-y.result c.args.g c.ranges.x.sfits (omega arith) c.sum-y.type_inv c.sum-y.ensures)
    (back _ c.divide.type_inv ∙ c.divide.ensures ∙ ap (λ (z : ℤ). down z (2 ^ c.args.g)) (back c.args.s c.ranges.s.sfits))))
