-- `numbers::widths::Widths::exponent` meets its contract.
use mathlib.Core.Path.{◌∙◌, ap}
use Rattle.numbers.proofs.Integers.{back}
use Rattle.numbers.specs.Number.{exponent_at}
use Rattle.numbers.specs.Twos.{signed_at}
use Rattle.numbers.proofs.widths.Widths.exponent.Goals as goal

pub returns : goal.returns
unfolding exponent_at
returns c = back _ c.signed.type_inv ∙ c.signed.ensures ∙ ap (signed_at c.args.self.e) c.low.ensures
