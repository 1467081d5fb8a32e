-- No code below 80 has 64 bits.
use Rattle.instructions.proofs.FetchPlaces.{short_word}
use Rattle.instructions.proofs.fetch.is_long.Goals as goal

pub returns-then-word-lt9223372036854775808 : goal.returns-then-word-lt9223372036854775808
returns-then-word-lt9223372036854775808 c = short_word c.args.word c.if-word-lt9223372036854775808.true
