-- `fields::bytes::read` meets its contract: eight bytes that end in those of the item are its number.
use mathlib.Core.Path.{refl, ◌∙◌}
use Prim.Native.Nat.{ℕ}
use Rattle.std.proofs.Math.Nat.{add-sub_cancel_left}
use Rattle.fields.proofs.Wholes.{read_part}
use Rattle.fields.proofs.bytes.read.Goals as goal

pub returns : goal.returns
returns g c = c.from_be_bytes.ensures ∙ read_part c.args.m.now c.args.k g.row.WIDTH (λ (i : ℕ). (c.type_inv.m i).fits) c.requires.1 _ c.requires.0 (c.copy_from_slice.ensures.after ∙ rw (add-sub_cancel_left c.args.k g.row.WIDTH) refl)
