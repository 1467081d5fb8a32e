-- The bytes to the end are counted.
use mathlib.Core.Bool.{false, false≢true}
use native.Mathlib.Omega.{arith}
use borrow.Author.Tests.{leb-true, leb-false}
use Rattle.instructions.proofs.FetchPlaces.{there_is}
use Rattle.instructions.proofs.fetch.there.Goals as goal

pub returns-then-p-ne0 : goal.returns-then-p-ne0
returns-then-p-ne0 c =
    there_is c.args.p.0 c.args.half_words c.args.lent.0 c.requires.0 c.requires.1 false (λ e. absurd (false≢true e)) (λ e l w. absurd (c.if-p-ne0.true w))

pub returns-then-p-lt-ORIGIN : goal.returns-then-p-lt-ORIGIN
returns-then-p-lt-ORIGIN c =
    there_is c.args.p.0 c.args.half_words c.args.lent.0 c.requires.0 c.requires.1 false (λ e. absurd (false≢true e)) (λ e l w. absurd (omega (arith, l, c.if-p-lt-ORIGIN.true)))

pub returns : goal.returns
returns c =
    there_is c.args.p.0 c.args.half_words c.args.lent.0 c.requires.0 c.requires.1 _ (λ e. (omega arith, (leb-true _ _ e, omega arith))) (λ e l w. leb-false _ _ e)
