-- `instructions::works::vector` meets its contract. An accepted plan is ready for its loop, and the loop does the plan's items (Working).
use Prim.Native.Nat.{ℕ, ◌+◌, ◌<◌}
use native.Mathlib.Omega.{arith}
use Rattle.instructions.specs.Plan.{shape_of}
use Rattle.instructions.specs.Private.Loops.{width_at, makes_at}
use Rattle.instructions.proofs.Working.{of_vector_lem, vector_ready}
use Rattle.instructions.proofs.works.vector.Goals as goal

pub vector-requires : goal.vector-requires
vector-requires c =
    let a = c.args in
    let n : ℕ = a.part.from + a.part.count in
    let some : 0 < n = omega (arith, a.part.some) in
    let h = of_vector_lem a.m.now a.plan (width_at a.code) (makes_at a.code) n c.requires.0 c.requires.1 some in
    (vector_ready a.m.now a.plan (width_at a.code) n c.requires.0.small c.requires.1 h, c.requires.2)

pub returns : goal.returns
unfolding shape_of
returns c = c.vector.ensures
