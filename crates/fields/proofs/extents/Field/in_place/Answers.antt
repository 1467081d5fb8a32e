-- Two words, and the same start: one test each.
use Rattle.fields.proofs.Compared.{first_no_word, second_no_word, words_both}
use Rattle.fields.proofs.extents.Field.in_place.Goals as goal

pub returns-else-eq : goal.returns-else-eq
returns-else-eq c = first_no_word c.args.self c.args.source c.eq.ensures c.if-eq.false

pub returns-else-eq-2 : goal.returns-else-eq-2
returns-else-eq-2 c = second_no_word c.args.self c.args.source c.eq.ensures c.if-eq.true c.eq-then-eq.ensures c.if-eq-2.false

pub returns-then-eq-2 : goal.returns-then-eq-2
returns-then-eq-2 c = words_both c.args.self c.args.source c.eq.ensures c.if-eq.true c.eq-then-eq.ensures c.if-eq-2.true
