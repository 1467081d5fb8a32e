-- `instructions::bitruns::to_word` meets its contract. To store a part is to store the word with the part changed.
use Rattle.instructions.proofs.Wordwise.{to_word}
use Rattle.instructions.proofs.bitruns.to_word.Goals as goal

pub returns : goal.returns
returns c =
    let put_word = c.put in
    let placed = c.placed-x in
    let word = c.read-w in
    let pre = c.requires in
    let a = c.args in to_word a.m.now put_word.new.m a.at a.n a.v word.result placed.result pre.0 pre.1 pre.2 word.ensures placed.ensures put_word.ensures
