-- `numbers::whole::whole` meets its contract.
use mathlib.Core.Bool.{true, false}
use mathlib.Core.Path.{◌≡◌, ◌∙◌, ap}
use Prim.Native.Nat.{ℕ}
use native.Mathlib.Omega.{arith}
use borrow.Author.Tests.{eq-eqb, ne_eqb}
use lib.Dec.{lit<}
use lib.IntN.{ℤ, pos}
use lib.Signed.{lt_z}
use mir.Syntax.{w64}
use mir.Val.{to_z, of_z}
use Rattle.numbers.proofs.Complements.{exponent_small, coefficient_small}
use Rattle.numbers.proofs.Integers.{back, test_of, negative}
use Rattle.numbers.specs.Flags.{with_flags}
use Rattle.numbers.specs.declared.number.Number.{Number}
use Rattle.numbers.specs.Number.{exponent_at, split_at}
use Rattle.numbers.specs.Whole.{whole_at, brought_to_zero}
use Rattle.numbers.proofs.whole.whole.Goals as goal

-- the exponent that is tested
seen : (word : ℕ) (n : Number) → n ≡ split_at 15 47 word → to_z w64 (of_z w64 n.exponent) ≡ exponent_at 15 47 word
seen word n is = rw is (back (exponent_at 15 47 word) (omega (arith, exponent_small 15 47 word (lit< tt))))

pub returns-then-digit-eq-MACHINE_ZERO_DIGIT : goal.returns-then-digit-eq-MACHINE_ZERO_DIGIT
unfolding whole_at
returns-then-digit-eq-MACHINE_ZERO_DIGIT c = rw (eq-eqb _ _ c.if-digit-eq-MACHINE_ZERO_DIGIT.true)

pub brought_to_zero-requires : goal.brought_to_zero-requires
brought_to_zero-requires c = let x = negative (exponent_at 15 47 c.args.word) (test_of (λ (z : ℤ). lt_z z (pos 0)) c.from-n.result.exponent _ true (seen c.args.word c.from-n.result c.from-n.ensures) c.if-x-lt0.true) in
    rw c.from-n.ensures (x, omega (arith, exponent_small 15 47 c.args.word (lit< tt)), coefficient_small 47 c.args.word (lit< tt))

pub returns-then-x-lt0 : goal.returns-then-x-lt0
unfolding whole_at
returns-then-x-lt0 c = rw (ne_eqb _ _ c.if-digit-eq-MACHINE_ZERO_DIGIT.false, test_of (λ (z : ℤ). lt_z z (pos 0)) c.from-n.result.exponent _ true (seen c.args.word c.from-n.result c.from-n.ensures) c.if-x-lt0.true)
    (ap (λ (n : ℕ). with_flags n 0)
    (c.brought_to_zero.ensures ∙ ap (brought_to_zero 15 47 c.args.how) c.from-n.ensures))

pub returns-then-digit-eq-INDEFINITE_DIGIT : goal.returns-then-digit-eq-INDEFINITE_DIGIT
unfolding whole_at
returns-then-digit-eq-INDEFINITE_DIGIT c = rw (ne_eqb _ _ c.if-digit-eq-MACHINE_ZERO_DIGIT.false, test_of (λ (z : ℤ). lt_z z (pos 0)) c.from-n.result.exponent _ false (seen c.args.word c.from-n.result c.from-n.ensures) c.if-x-lt0.false, eq-eqb _ _ c.if-digit-eq-INDEFINITE_DIGIT.true)

pub returns-else-digit-eq-INDEFINITE_DIGIT : goal.returns-else-digit-eq-INDEFINITE_DIGIT
unfolding whole_at
returns-else-digit-eq-INDEFINITE_DIGIT c = rw (ne_eqb _ _ c.if-digit-eq-MACHINE_ZERO_DIGIT.false, test_of (λ (z : ℤ). lt_z z (pos 0)) c.from-n.result.exponent _ false (seen c.args.word c.from-n.result c.from-n.ensures) c.if-x-lt0.false, ne_eqb _ _ c.if-digit-eq-INDEFINITE_DIGIT.false)
