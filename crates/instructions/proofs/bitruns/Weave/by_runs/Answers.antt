use mathlib.Core.Path.{◌≡◌, ap, ◌∙◌}
use Prim.Native.Nat.{ℕ, ◌+◌}
use native.Mathlib.Omega.{arith}
use Rattle.instructions.specs.Private.Loops.{cursor_at, cursor_on}
use Rattle.instructions.specs.declared.bitruns.Cursor.{Cursor}
use Rattle.instructions.proofs.Weaving.{near, place_lt, next_turn, weave_turn, cursor_on_lem}
use Rattle.instructions.proofs.bitruns.Weave.by_runs.Goals as goal

pub left-requires : goal.left-requires
left-requires c = let l = c.loop-done in rw l.invariant.2 (place_lt c.args.self (c.args.from + l.done) c.requires.some_bits)

pub next_bits-v-requires : goal.next_bits-v-requires
next_bits-v-requires c =
    let a = c.args in
    let l = c.loop-done in
    let e = rw (c.min.ensures, c.left.ensures, l.invariant.2) at c.min-n.ensures in
    let k = next_turn a.m.now l.m a.self a.from a.count l.done c.min-n.result c.requires l.invariant.1 c.loop-done-test.true e in
    rw l.invariant.2 k.room

pub to_word-requires : goal.to_word-requires
to_word-requires c =
    let a = c.args in
    let l = c.loop-done in
    let e = rw (c.min.ensures, c.left.ensures, l.invariant.2) at c.min-n.ensures in
    let k = next_turn a.m.now l.m a.self a.from a.count l.done c.min-n.result c.requires l.invariant.1 c.loop-done-test.true e in
    (k.room_to, k.word, rw (c.next_bits-v.ensures, l.invariant.2) k.small)

pub on-u-requires : goal.on-u-requires
on-u-requires c =
    let a = c.args in
    let l = c.loop-done in
    let i : ℕ = a.from + l.done in
    let q = near a.self i (omega (arith, c.requires.upto_c, c.requires.small)) c.requires.near_r (omega arith) (omega arith) (omega arith) in
    let p = place_lt a.self i c.requires.some_bits in
    rw l.invariant.2 (omega arith, omega arith, omega (arith, q.0), omega (arith, q.1))

pub loop-done-smaller : goal.loop-done-smaller
loop-done-smaller c =
    let a = c.args in
    let l = c.loop-done in
    let e = rw (c.min.ensures, c.left.ensures, l.invariant.2) at c.min-n.ensures in
    let k = next_turn a.m.now l.m a.self a.from a.count l.done c.min-n.result c.requires l.invariant.1 c.loop-done-test.true e in
    omega (arith, k.upto, k.some)

pub loop-done-preserved : goal.loop-done-preserved
loop-done-preserved c =
    let a = c.args in
    let l = c.loop-done in
    let n : ℕ = c.min-n.result in
    let e = rw (c.min.ensures, c.left.ensures, l.invariant.2) at c.min-n.ensures in
    let k = next_turn a.m.now l.m a.self a.from a.count l.done n c.requires l.invariant.1 c.loop-done-test.true e in
    let on : a.from + l.done + n ≡ a.from + (l.done + n) = omega arith in (
      omega (arith, k.upto),
      c.to_word.ensures.as_long ∙ l.invariant.1,
      c.on-u.ensures ∙ ap (λ (u : Cursor). cursor_on u a.self.period n) l.invariant.2 ∙ cursor_on_lem a.self (a.from + l.done) n c.requires.some_bits k.period ∙ ap (cursor_at a.self) on,
      (λ (f : ℕ). weave_turn a.m.now l.m c.to_word.new.m a.self (a.from + a.count) a.from l.done n c.next_bits-v.result c.requires k.some k.upto k.left l.invariant.1 (rw l.invariant.2 at c.next_bits-v.ensures) c.to_word.ensures f (l.invariant.3 f)),
    )
