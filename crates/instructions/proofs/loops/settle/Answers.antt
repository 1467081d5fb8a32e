-- `instructions::loops::settle` meets its contract. What is stored is the item chosen, at the byte of item i.
use mathlib.Core.Path.{◌≡◌, refl}
use Prim.Native.Nat.{◌+◌, ◌*◌, ◌%◌, ◌^◌}
use native.Mathlib.Omega.{arith}
use lib.Dec.{eqb}
use Rattle.instructions.proofs.Turning.{settling}
use Rattle.instructions.proofs.loops.settle.Goals as goal

pub returns : goal.returns
returns g c =
    let a = c.args in
    let w = g.row.WIDTH in
    let e : 8 * (a.k + a.i * w) ≡ 8 * a.k + a.i * (8 * w) = omega arith in
    settling a.m.now c.put.new.m (8 * a.k + a.i * (8 * w)) (8 * (a.k + a.i * w)) (8 * w) (eqb a.go 1) a.new a.f c.read-old.result c.choose-item.result c.choose-raised.result
    (c.choose-item.result % 2 ^ (8 * w)) e refl c.read-old.ensures c.choose-item.ensures c.choose-raised.ensures c.put.ensures
