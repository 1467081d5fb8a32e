-- `instructions::bitruns::in_word` meets its contract. A field of a field of memory.
use Rattle.instructions.proofs.Wordwise.{in_word}
use Rattle.instructions.proofs.bitruns.in_word.Goals as goal

pub returns : goal.returns
returns c =
    let part = c.part in
    let word = c.read-w in
    let pre = c.requires in
    let a = c.args in in_word a.m.now a.at a.n word.result part.result pre.0 pre.1 word.ensures part.ensures
