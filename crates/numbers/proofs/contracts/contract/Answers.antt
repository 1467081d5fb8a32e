-- `numbers::contracts::contract` meets its contract.
use mathlib.Core.Bool.{Bool, true, false}
use mathlib.Core.Path.{◌≡◌, ◌∙◌, ap, ap₂}
use Prim.Native.Nat.{ℕ, ◌^◌, ◌<◌, ◌≤◌}
use native.Mathlib.Omega.{arith}
use lib.Dec.{lit<, lit≤}
use lib.IntN.{ℤ, pos, negsuc, ◌+ℤ◌}
use lib.Signed.{mag, le_z}
use mir.Syntax.{w64}
use mir.Val.{to_z, of_z}
use Rattle.numbers.proofs.Complements.{coefficient_mag, exponent_small}
use Rattle.numbers.proofs.Integers.{back, test_of}
use Rattle.numbers.proofs.Linear.{mag_add}
use Rattle.numbers.specs.Contract.{addend, places, contracted_at, contract_of}
use Rattle.numbers.specs.declared.number.Number.{Number}
use Rattle.numbers.specs.Number.{coefficient_at, exponent_at, split_at}
use Rattle.numbers.proofs.contracts.contract.Goals as goal

-- what is added first is small
addend_small : (rounded : Bool) → mag (addend rounded) ≤ 2 ^ 23
addend_small true = lit≤ tt
addend_small false = lit≤ tt

-- the exponent that is tested, and the sum that is moved
seen : (word : ℕ) (n : Number) → n ≡ split_at 15 47 word → to_z w64 (of_z w64 n.exponent) ≡ exponent_at 15 47 word
seen word n e = rw e (back (exponent_at 15 47 word) (omega (arith, exponent_small 15 47 word (lit< tt))))

part : (word : ℕ) (n : Number) → n ≡ split_at 15 47 word → to_z w64 (of_z w64 n.coefficient) ≡ coefficient_at 47 word
part word n e = rw e (back (coefficient_at 47 word) (omega (arith, coefficient_mag 47 word)))

total : (word : ℕ) (n : Number) → n ≡ split_at 15 47 word → (rounded : Bool) (x s : ℤ) → mag x < 2 ^ 63 → x ≡ addend rounded → mag s < 2 ^ 63
    → s ≡ to_z w64 (of_z w64 n.coefficient) +ℤ to_z w64 (of_z w64 x) → to_z w64 (of_z w64 s) ≡ coefficient_at 47 word +ℤ addend rounded
total word n e rounded x s xs ex ss es = back s ss ∙ es ∙ ap₂ ◌+ℤ◌ (part word n e) (back x xs ∙ ex)

pub returns-then-x-ge28672 : goal.returns-then-x-ge28672
unfolding contract_of contracted_at
returns-then-x-ge28672 c = rw (test_of (λ (z : ℤ). le_z (pos 0x7000) z) c.from-n.result.exponent _ true (seen c.args.word c.from-n.result c.from-n.ensures) c.if-x-ge28672.true)

pub returns-then-x-ge-TOO_LARGE : goal.returns-then-x-ge-TOO_LARGE
unfolding contract_of contracted_at
returns-then-x-ge-TOO_LARGE c = rw (test_of (λ (z : ℤ). le_z (pos 0x7000) z) c.from-n.result.exponent _ false (seen c.args.word c.from-n.result c.from-n.ensures) c.if-x-ge28672.false, test_of (λ (z : ℤ). le_z (pos 0x58) z) c.from-n.result.exponent _ true (seen c.args.word c.from-n.result c.from-n.ensures) c.if-x-ge-TOO_LARGE.true)

pub sum-s-requires : goal.sum-s-requires
sum-s-requires c = (
  rw (part c.args.word c.from-n.result c.from-n.ensures) (omega (arith, coefficient_mag 47 c.args.word)),
  rw (back _ c.addend.type_inv ∙ c.addend.ensures) (omega (arith, addend_small c.args.rounded)),
)

pub narrow-requires : goal.narrow-requires
narrow-requires c = let w = c.args.word in
    let r = c.args.rounded in (
      c.places.ensures.2,
      rw (seen c.args.word c.from-n.result c.from-n.ensures) (exponent_small 15 47 w (lit< tt)),
      rw (total c.args.word c.from-n.result c.from-n.ensures c.args.rounded c.addend.result c.sum-s.result c.addend.type_inv c.addend.ensures c.sum-s.type_inv c.sum-s.ensures) (omega (arith, mag_add (coefficient_at 47 w) (addend r), coefficient_mag 47 w, addend_small r)),
    )

pub returns-then-x-geminus136 : goal.returns-then-x-geminus136
unfolding contract_of contracted_at
returns-then-x-geminus136 c = let s = total c.args.word c.from-n.result c.from-n.ensures c.args.rounded c.addend.result c.sum-s.result c.addend.type_inv c.addend.ensures c.sum-s.type_inv c.sum-s.ensures in
    let g = c.places.ensures.0 ∙ ap places s in
    rw (
      test_of (λ (z : ℤ). le_z (pos 0x7000) z) c.from-n.result.exponent _ false (seen c.args.word c.from-n.result c.from-n.ensures) c.if-x-ge28672.false,
      test_of (λ (z : ℤ). le_z (pos 0x58) z) c.from-n.result.exponent _ false (seen c.args.word c.from-n.result c.from-n.ensures) c.if-x-ge-TOO_LARGE.false,
      test_of (λ (z : ℤ). le_z (negsuc 0x87) z) c.from-n.result.exponent _ true (seen c.args.word c.from-n.result c.from-n.ensures) c.if-x-geminus136.true,
    )
    (c.narrow.ensures ∙ cc (seen c.args.word c.from-n.result c.from-n.ensures))

pub returns-else-x-geminus136 : goal.returns-else-x-geminus136
unfolding contract_of contracted_at
returns-else-x-geminus136 c = rw (
  test_of (λ (z : ℤ). le_z (pos 0x7000) z) c.from-n.result.exponent _ false (seen c.args.word c.from-n.result c.from-n.ensures) c.if-x-ge28672.false,
  test_of (λ (z : ℤ). le_z (pos 0x58) z) c.from-n.result.exponent _ false (seen c.args.word c.from-n.result c.from-n.ensures) c.if-x-ge-TOO_LARGE.false,
  test_of (λ (z : ℤ). le_z (negsuc 0x87) z) c.from-n.result.exponent _ false (seen c.args.word c.from-n.result c.from-n.ensures) c.if-x-geminus136.false,
)
