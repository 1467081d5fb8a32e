-- The element at a place, copied.
use mathlib.Core.List.{map}
use mathlib.Core.Path.{◌∙◌}
use Rattle.instructions.specs.Table.{row_of, table, placed}
use Rattle.instructions.proofs.TablePlaces.{copied}
use Rattle.instructions.proofs.table.row_at.Goals as goal

pub returns : goal.returns
unfolding placed
returns c = c.copied.ensures ∙ copied (map row_of table) c.args.place c.get.result c.get.ensures.lookup
