-- `numbers::number::Number::half_word` meets its contract.
use Rattle.numbers.proofs.Complements.{joined_lt}
use Rattle.numbers.proofs.number.Number.half_word.Goals as goal

pub overflow_cast-result : goal.overflow_cast-result
overflow_cast-result c = record { fits = rw c.join.ensures (joined_lt 7 23 c.args.self) }
