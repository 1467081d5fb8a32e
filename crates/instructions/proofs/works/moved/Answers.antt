-- `instructions::works::moved` meets its contract. An accepted plan is ready for its loop, and the loop does the plan's items (Working).
use Prim.Native.Nat.{ℕ, ◌+◌, ◌<◌}
use native.Mathlib.Omega.{arith}
use Rattle.instructions.specs.Plan.{shape_of}
use Rattle.instructions.proofs.Working.{of_move, move_ready}
use Rattle.instructions.proofs.works.moved.Goals as goal

pub move_bytes-requires : goal.move_bytes-requires
move_bytes-requires c =
    let a = c.args in
    let n : ℕ = a.part.from + a.part.count in
    let some : 0 < n = omega (arith, a.part.some) in
    let k = of_move a.m.now a.plan n c.requires.0 c.requires.1 some in
    move_ready a.m.now a.plan n c.requires.0.small k.0 k.1

pub returns : goal.returns
unfolding shape_of
returns c = c.move_bytes.ensures c.args.part.flags
