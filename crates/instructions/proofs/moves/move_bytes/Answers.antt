-- `instructions::moves::move_bytes` meets its contract. Bytes copied, then bytes filled, are a move (Moving.move_joined).
use mathlib.Core.Path.{◌≡◌}
use Prim.Native.Nat.{min, ◌-◌}
use native.Mathlib.Omega.{arith}
use Rattle.instructions.proofs.Moving.{move_joined}
use Rattle.instructions.proofs.moves.move_bytes.Goals as goal

pub copy-requires : goal.copy-requires
copy-requires c =
    let copied = c.copied-first in
    let a = c.args in
    let v = a.plan in
    let h = c.requires in
    let e : copied.result ≡ min (v.length - a.from) a.count = copied.ensures in ((λ q. omega (arith, h.upto_a (omega arith), h.whole_a (omega arith))), omega (arith, h.whole_c, h.upto_c))

pub returns : goal.returns
returns c =
    let fill = c.fill in
    let copy = c.copy in
    let copied = c.copied-first in
    let a = c.args in
    let v = a.plan in
    let h = c.requires in
    let e : copied.result ≡ min (v.length - a.from) a.count = copied.ensures in move_joined a.m.now copy.new.m fill.new.m v.source v.fill v.length v.result a.from a.count copied.result h.whole_a h.whole_c e copy.ensures fill.ensures
