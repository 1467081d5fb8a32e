use native.Mathlib.Omega.{arith}
use mathlib.Core.Path.{◌≡◌, sym, ◌∙◌, ap}
use Prim.Native.Nat.{ℕ, ◌+◌, ◌-◌, ◌<◌}
use Rattle.runs.specs.Steps.{at}
use Rattle.runs.specs.Calls.{leaves}
use Rattle.replay.proofs.Parting.{goes, further, over, steps_of}
use Rattle.replay.proofs.parts.in_parts.Goals as goal

pub together-sum-requires : goal.together-sum-requires
together-sum-requires c =
    let l = c.loop-k in
    let so_far = steps_of _ _ _ _ _ _ (l.invariant.1 _ _ c.run-sum.ensures) in
    let last = steps_of _ _ _ _ _ _ c.run-last.ensures in
    omega (arith, so_far, last, c.min-first.ensures, c.min-k.ensures, l.invariant.0, c.ranges.budget)

pub loop-k-preserved : goal.loop-k-preserved
loop-k-preserved c =
    let l = c.loop-k in
    let k = c.min-k.result in
    let left₀ = c.args.budget - c.min-first.result in
    let some : 0 < k = omega (arith, goes l.sum l.left (sym c.goes_on.ensures ∙ c.loop-k-test.true), c.min-k.ensures, c.requires) in
    let all : (j : ℕ) → j + (left₀ - l.left) + k ≡ j + (left₀ - (l.left - k)) = λ j. omega (arith, l.invariant.0, c.min-k.ensures) in (
      omega (arith, l.invariant.0),
      λ j s e.
          ap (leaves (at _ _ _)) c.together-sum.ensures
          ∙ further (j + (left₀ - l.left)) s _ _ _ l.sum (l.invariant.1 j s e) k _ _ _ _ _ some (all j) c.run-last.ensures,
    )

pub returns : goal.returns
returns c =
    let l = c.loop-k in
    let first = c.min-first.result in
    let budget = c.args.budget in
    let all : first + (budget - first - l.left) + l.left ≡ budget = omega (arith, l.invariant.0, c.min-first.ensures) in
    over _ _ _ _ _ _ (l.invariant.1 _ _ c.run-sum.ensures) l.left _ all (sym c.goes_on.ensures ∙ c.loop-k-test.false)
