use mathlib.Core.Path.{◌≡◌, ap, ◌∙◌}
use native.Mathlib.Omega.{arith}
use Rattle.instructions.specs.Private.Loops.{spread_of}
use Rattle.instructions.proofs.Periodic.{spread_more, steps_fit}
use Rattle.instructions.proofs.bitruns.spread.Goals as goal

pub overflow_mul-t : goal.overflow_mul-t
overflow_mul-t c =
    let a = c.args in
    let z = steps_fit a.t c.loop-k.k a.step c.loop-k-test.true c.requires.3 in
    omega arith

pub piece-requires : goal.piece-requires
piece-requires c =
    let a = c.args in
    (steps_fit a.t c.loop-k.k a.step c.loop-k-test.true c.requires.3, omega arith)

pub overflow_add-v : goal.overflow_add-v
overflow_add-v c =
    let l = c.loop-k in
    let a = c.args in
    let z = spread_more a.x a.step a.n a.gap a.t l.k l.v c.piece.result c.requires.0 c.loop-k-test.true c.requires.2 l.invariant c.piece.ensures in record { fits = z.1 }

pub loop-k-preserved : goal.loop-k-preserved
loop-k-preserved c =
    let l = c.loop-k in
    let a = c.args in
    let z = spread_more a.x a.step a.n a.gap a.t l.k l.v c.piece.result c.requires.0 c.loop-k-test.true c.requires.2 l.invariant c.piece.ensures in z.0

pub returns : goal.returns
returns c =
    let l = c.loop-k in
    let a = c.args in
    let e : l.k ≡ a.t = omega arith in
    l.invariant ∙ ap (spread_of a.x a.step a.n a.gap a.t) e
