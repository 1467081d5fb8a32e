-- `instructions::works::bits` meets its contract. An accepted plan is ready for its loop, and the loop does the plan's items (Working).
use Prim.Native.Nat.{ℕ, ◌+◌, ◌<◌}
use native.Mathlib.Omega.{arith}
use Rattle.instructions.specs.Plan.{shape_of}
use Rattle.instructions.proofs.Working.{of_bits_lem, bits_ready, bits_worked}
use Rattle.instructions.proofs.works.bits.Goals as goal

pub gather-requires : goal.gather-requires
gather-requires c =
    let a = c.args in
    let n : ℕ = a.part.from + a.part.count in
    let some : 0 < n = omega (arith, a.part.some) in
    let k = of_bits_lem a.m.now a.plan n c.requires.0 c.requires.1 some in
    bits_ready a.m.now a.plan n c.requires.0.small c.requires.0.whole some k.0 k.1

pub returns : goal.returns
unfolding shape_of
returns c =
    let a = c.args in
    let n : ℕ = a.part.from + a.part.count in
    let some : 0 < n = omega (arith, a.part.some) in
    let k = of_bits_lem a.m.now a.plan n c.requires.0 c.requires.1 some in
    bits_worked a.m.now a.plan a.part.from a.part.count a.part.flags c.gather.new.m (omega (arith, k.0)) c.gather.ensures
