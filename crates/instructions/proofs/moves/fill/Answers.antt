-- `instructions::moves::fill` meets its contract. Bytes filled are as many turns (Moving.filled).
use mathlib.Core.Path.{◌≡◌, sym, ap, ◌∙◌}
use Prim.Native.Nat.{ℕ, ◌+◌, ◌-◌}
use native.Mathlib.Omega.{arith}
use borrow.Author.Rules.{rules}
use lib.ListN.{replicate}
use Rattle.std.proofs.lemmas.Slice.{put_mid-paste}
use Rattle.std.proofs.lemmas.List.{length-replicate}
use Rattle.std.proofs.lemmas.List.Edits.{length-between}
use Rattle.instructions.proofs.Moving.{filled}
use Rattle.instructions.proofs.moves.fill.Goals as goal

pub returns : goal.returns
returns c =
    let a = c.args in
    let e : a.count ≡ a.kc + a.from + a.count - (a.kc + a.from) = omega arith in
    let part : c.fill.new.self ≡ replicate a.count a.v = c.fill.ensures.after (λ y h. h) ∙ ap (λ (n : ℕ). replicate n a.v) (length-between a.m.now (a.kc + a.from) (a.kc + a.from + a.count) (omega arith) ∙ sym e) in
    filled a.m.now _ a.kc a.from a.v a.count (λ n. search rules) c.ranges.v.fits c.requires
    (put_mid-paste (a.kc + a.from) (a.kc + a.from + a.count - (a.kc + a.from)) a.m.now c.fill.new.self (replicate a.count a.v) a.count part e (sym (length-replicate a.count a.v)))
