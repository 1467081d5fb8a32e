-- `fields::bytes::put` meets its contract: the first bytes of eight that begin with those of the item.
use mathlib.Core.Path.{ap, ◌∙◌}
use mathlib.Core.List.{List}
use Prim.Native.Nat.{ℕ}
use lib.ListN.{take}
use Rattle.fields.proofs.Wholes.{put_part}
use Rattle.fields.proofs.bytes.put.Goals as goal

pub returns : goal.returns
returns g c =
    put_part c.args.m.now c.args.k g.row.WIDTH (λ (i : ℕ). (c.slice_known-1.given i).fits) c.requires.2 c.args.v _ c.requires.1 c.requires.3
    (c.copy_from_slice.ensures.after ∙ ap (λ (l : List ℕ). take g.row.WIDTH l) c.to_be_bytes-number.ensures)
