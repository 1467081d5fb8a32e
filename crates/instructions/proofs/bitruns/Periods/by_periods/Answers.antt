use mathlib.Core.Path.{◌≡◌, ◌∙◌}
use Prim.Native.Nat.{ℕ, ◌+◌, ◌*◌}
use native.Mathlib.Nat.{add-mul}
use native.Mathlib.Omega.{arith}
use Rattle.instructions.specs.Private.Loops.{period_bits}
use Rattle.instructions.proofs.Periodic.{chunk_at, chunk_near, chunk_turn}
use Rattle.instructions.proofs.bitruns.Periods.by_periods.Goals as goal

pub overflow_add-r : goal.overflow_add-r
overflow_add-r c =
    let a = c.args in
    let h = rw c.bits.ensures at c.loop-k-test.true in
    let z = chunk_near a.m.now a.self.weave a.from a.count a.self.t c.loop-k.k c.at-u.result c.at-u.ensures c.requires.0 a.self.fits c.requires.1 h (omega arith) (omega arith) (omega arith) in
    omega arith

pub overflow_add-s : goal.overflow_add-s
overflow_add-s c =
    let a = c.args in
    let h = rw c.bits.ensures at c.loop-k-test.true in
    let z = chunk_near a.m.now a.self.weave a.from a.count a.self.t c.loop-k.k c.at-u.result c.at-u.ensures c.requires.0 a.self.fits c.requires.1 h (omega arith) (omega arith) (omega arith) in
    omega arith

pub bits-v-requires : goal.bits-v-requires
bits-v-requires c =
    let a = c.args in
    let l = c.loop-k in
    let z = chunk_at a.m.now l.m a.self.weave a.from a.count a.self.t l.k c.at-u.result c.at-u.ensures l.invariant.0 c.requires.0 a.self.fits c.requires.1 (rw c.bits.ensures at c.loop-k-test.true) in
    (z.room_r, z.room_s)

pub put_run-requires : goal.put_run-requires
put_run-requires c =
    let a = c.args in
    let l = c.loop-k in
    let z = chunk_at a.m.now l.m a.self.weave a.from a.count a.self.t l.k c.at-u.result c.at-u.ensures l.invariant.0 c.requires.0 a.self.fits c.requires.1 (rw c.bits.ensures at c.loop-k-test.true) in
    rw (c.bits.ensures, c.bits-v.ensures) (z.room_to, z.small)

pub loop-k-preserved : goal.loop-k-preserved
loop-k-preserved c =
    let a = c.args in
    let l = c.loop-k in
    let n : ℕ = a.self.t * period_bits a.self.weave.period in
    let e : l.k * n + n ≡ (l.k + 1) * n = omega (arith, add-mul l.k 1 n) in
    let z = chunk_at a.m.now l.m a.self.weave a.from a.count a.self.t l.k c.at-u.result c.at-u.ensures l.invariant.0 c.requires.0 a.self.fits c.requires.1 (rw c.bits.ensures at c.loop-k-test.true) in
    let kept = rw c.bits.ensures at c.put_run.ensures in (
      kept.as_long ∙ l.invariant.0,
      (λ (f : ℕ). rw e at (chunk_turn a.m.now l.m c.put_run.new.m a.self.weave (a.from + a.count) a.from (l.k * n) n c.bits-v.result c.requires.0 z.upto l.invariant.0 (c.bits-v.ensures ∙ z.value) kept f (l.invariant.1 f))),
    )
