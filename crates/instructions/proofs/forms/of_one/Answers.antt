-- `instructions::forms::of_one` meets its contract. Where A alone is used, any B will do.
use mathlib.Core.Path.{sym}
use Prim.Native.Nat.{◌+◌, ◌*◌}
use Rattle.std.proofs.Common.{rules, refl}
use Rattle.instructions.specs.declared.items.Source.TheVariants.{Value}
use Rattle.instructions.proofs.Turning.{alone_turned, whole_field}
use Rattle.instructions.proofs.forms.of_one.Goals as goal

pub returns-in-Field : goal.returns-in-Field
returns-in-Field g c h t =
    let a = c.args in
    let p = a.plan in
    let did = c.by_control in
    alone_turned _ p.first (Value 0) p.second p.control p.result (8 * g.row.WIDTH) (λ x y. h x) a.part.from a.part.count a.m.now a.part.flags did.new.m did.result
    (λ x y z. refl) (whole_field a.m.now (a.part.from + a.part.count) c.in-Field.base p.first c.in-Field.is c.requires.reach.1.first)
    (did.ensures (λ x y. h x) (λ x y r hx hy said. t x y r hx hy (search rules)))

pub returns-in-Value : goal.returns-in-Value
returns-in-Value g c h t =
    let a = c.args in
    let p = a.plan in
    let did = c.by_control-in-Value in
    alone_turned _ p.first (Value 0) p.second p.control p.result (8 * g.row.WIDTH) (λ x y. h x) a.part.from a.part.count a.m.now a.part.flags did.new.m did.result
    (λ x y z. refl) (sym c.in-Value.is)
    (did.ensures (λ x y. h x) (λ x y r hx hy said. t x y r hx hy (search rules)))
