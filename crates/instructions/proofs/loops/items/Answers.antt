use mathlib.Core.Path.{◌≡◌, ◌∙◌}
use Prim.Native.Nat.{◌-◌, ◌*◌}
use native.Mathlib.Omega.{arith}
use Rattle.instructions.proofs.Turning.{vector_turn}
use Rattle.instructions.proofs.loops.items.Goals as goal

pub loop-i-preserved : goal.loop-i-preserved
loop-i-preserved g c =
    let a = c.args in
    let l = c.loop-i in
    let low = l.invariant.0 in
    let high = c.loop-i-test.true in
    let ends = l.invariant.2 in
    let st = c.settle-f in (
      omega arith,
      omega arith,
      omega arith,
      st.ensures.kept.as_long ∙ l.invariant.3,
      λ h t. vector_turn (g.A.Lane.source a.at.a) (g.B.Lane.source a.at.b) (g.Z.Gating.control a.at.z) (8 * a.at.c) (8 * g.row.WIDTH) h a.part.from l.i a.m.now l.m st.new.m a.part.flags
          l.f st.result c.gate-go.result c.word-x.result c.word-y.result c.made.result low l.invariant.3 (l.invariant.4 h t) c.gate-go.ensures c.word-x.ensures c.word-y.ensures
          (t c.word-x.result c.word-y.result c.made.result (omega (arith, c.word-x.type_inv)) (omega (arith, c.word-y.type_inv)) c.made.ensures) st.ensures,
    )

pub returns : goal.returns
returns g c h t =
    let a = c.args in
    let l = c.loop-i in
    let low = l.invariant.0 in
    let high = l.invariant.1 in
    let done = c.loop-i-test.false in
    let e : l.i - a.part.from ≡ a.part.count = omega arith in
    record { as_long = l.invariant.3; does = rw e at (l.invariant.4 h t) }
