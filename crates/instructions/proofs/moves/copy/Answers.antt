use mathlib.Core.Path.{◌≡◌, ◌∙◌}
use Prim.Native.Nat.{ℕ, ◌+◌, ◌-◌, ◌*◌}
use native.Mathlib.Omega.{arith}
use borrow.Author.Rules.{rules}
use lib.ListN.{get_or, length-set}
use Rattle.fields.specs.Bytes.{Bytes}
use Rattle.instructions.specs.Items.{bits}
use Rattle.instructions.proofs.Turning.{byte_turn, byte_read}
use Rattle.instructions.proofs.moves.copy.Goals as goal

pub loop-i-preserved : goal.loop-i-preserved
loop-i-preserved c =
    let l = c.loop-i in
    let a = c.args in
    let b : Bytes l.m = λ n. search rules in
    let v : ℕ = get_or l.m (a.k + l.i) 0 in
    let here : a.from + (l.i - a.from) ≡ l.i = omega arith in
    let on : l.i - a.from + 1 ≡ l.i + 1 - a.from = omega arith in
    let ev = byte_read l.m a.k l.i b (omega (arith, c.requires.0 (omega arith))) in (
      length-set l.m (a.kc + l.i) v ∙ l.invariant.0,
      (λ f. rw (here, on) at (byte_turn a.kc (λ n. bits (8 * a.k + n * 8)) a.m.now l.m f f a.from (l.i - a.from) v b l.invariant.0 (l.invariant.1 f) (rw here ev) (b (a.k + l.i)) (omega arith))),
    )

pub returns : goal.returns
returns c =
    let l = c.loop-i in
    let e : l.i - c.args.from ≡ c.args.count = omega arith in λ f. record { as_long = l.invariant.0; does = rw e at (l.invariant.1 f) }
