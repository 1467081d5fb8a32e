-- `instructions::forms::vector` meets its contract. Each code is the one that its arm names.
use Rattle.std.proofs.Common.{rules, true, false}
use Rattle.numbers.specs.Contract.{contract_of}
use Rattle.numbers.specs.Shift.{shift_of}
use Rattle.numbers.specs.Whole.{truncate_of, floor_of, ceiling_of}
use Rattle.numbers.specs.Words.{sum_of, difference_of}
use Rattle.instructions.specs.Meanings.{plain}
use Rattle.instructions.specs.Private.Loops.{width_at, makes_at}
use Rattle.instructions.specs.Table.{meaning_of}
use Rattle.instructions.proofs.forms.vector.Goals as goal

pub returns-in-131 : goal.returns-in-131
unfolding width_at makes_at meaning_of
returns-in-131 c = rw c.in-131.is (c.of_two.ensures (λ x y. plain (sum_of x y)) (λ x y r hx hy said. search rules))

pub returns-in-135 : goal.returns-in-135
unfolding width_at makes_at meaning_of
returns-in-135 c = rw c.in-135.is (c.of_two-in-135.ensures (λ x y. plain (difference_of x y)) (λ x y r hx hy said. search rules))

pub returns-in-138 : goal.returns-in-138
unfolding width_at makes_at meaning_of
returns-in-138 c = rw c.in-138.is (c.of_two-in-138.ensures (λ x y. plain (shift_of x y)) (λ x y r hx hy said. search rules))

pub returns-in-144 : goal.returns-in-144
unfolding width_at makes_at meaning_of
returns-in-144 c = rw c.in-144.is (c.of_one.ensures (λ x. truncate_of x) (λ x y r hx hy said. search rules))

pub returns-in-145 : goal.returns-in-145
unfolding width_at makes_at meaning_of
returns-in-145 c = rw c.in-145.is (c.of_one-in-145.ensures (λ x. floor_of x) (λ x y r hx hy said. search rules))

pub returns-in-146 : goal.returns-in-146
unfolding width_at makes_at meaning_of
returns-in-146 c = rw c.in-146.is (c.of_one-in-146.ensures (λ x. ceiling_of x) (λ x y r hx hy said. search rules))

pub returns-in-150 : goal.returns-in-150
unfolding width_at makes_at meaning_of
returns-in-150 c = rw c.in-150.is (c.of_one-in-150.ensures (λ x. contract_of false x) (λ x y r hx hy said. search rules))

pub returns-in-151 : goal.returns-in-151
unfolding width_at makes_at meaning_of
returns-in-151 c = rw c.in-151.is (c.of_one-in-151.ensures (λ x. contract_of true x) (λ x y r hx hy said. search rules))

pub returns-in-152 : goal.returns-in-152
unfolding width_at makes_at meaning_of
returns-in-152 c = rw c.in-152.is (c.of_one-in-152.ensures (λ x. plain x) (λ x y r hx hy said. search rules))
