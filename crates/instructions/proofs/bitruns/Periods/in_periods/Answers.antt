-- `instructions::bitruns::Periods::in_periods` meets its contract. Three parts, one after another.
use mathlib.Core.Path.{◌≡◌}
use Prim.Native.Nat.{ℕ, ◌+◌, ◌-◌, ◌%◌, ◌≤◌, ◌<◌}
use native.Mathlib.Nat.{mod-lt}
use native.Mathlib.Omega.{arith}
use Rattle.instructions.specs.Private.Loops.{period_bits, woven_shape}
use Rattle.instructions.proofs.Weaving.{past}
use Rattle.instructions.proofs.Periodic.{ready_less, done_join}
use Rattle.instructions.proofs.bitruns.Periods.in_periods.Goals as goal

pub by_periods-requires : goal.by_periods-requires
by_periods-requires c =
    let a = c.args in
    let pre = c.requires in
    let q : a.from % period_bits a.self.weave.period < period_bits a.self.weave.period = mod-lt a.from pre.0.some_bits in
    let k = a.self.fits.gap in
    let w = rw c.bits-gap.ensures at (c.by_runs.ensures 0) in
    rw c.bits-gap.ensures (
      ready_less a.m.now c.by_runs.new.m a.self.weave (a.from + a.count) _ w.as_long (omega arith) pre.0,
      (past a.from (period_bits a.self.weave.period) (period_bits a.self.weave.period - a.from % period_bits a.self.weave.period) pre.0.some_bits (omega arith)).1,
    )

pub returns : goal.returns
returns c =
    let a = c.args in
    let pre = c.requires in
    let q : a.from % period_bits a.self.weave.period < period_bits a.self.weave.period = mod-lt a.from pre.0.some_bits in
    let k = a.self.fits.gap in
    let lead : ℕ = c.bits-gap.result - a.from % c.bits-gap.result in
    let done : ℕ = lead + c.by_periods.result in
    let le : lead ≤ a.count = rw c.bits-gap.ensures (omega arith) in
    let e : done + (a.count - done) ≡ a.count = omega (arith, c.by_periods.ensures.0) in
    let d₁ = done_join a.m.now c.by_runs.new.m c.by_periods.new.m (woven_shape a.self.weave) a.from lead c.by_periods.result c.by_runs.ensures c.by_periods.ensures.1 in
    rw e at (done_join a.m.now c.by_periods.new.m c.by_runs-2.new.m (woven_shape a.self.weave) a.from done (a.count - done) d₁ c.by_runs-2.ensures)
