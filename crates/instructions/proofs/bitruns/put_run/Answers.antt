-- `instructions::bitruns::put_run` meets its contract. In one word, or in two side by side.
use mathlib.Core.Path.{◌≡◌}
use Prim.Native.Nat.{◌-◌, ◌%◌}
use native.Mathlib.Omega.{arith}
use lib.ListN.{length}
use Rattle.fields.proofs.Places.{field_lt}
use Rattle.instructions.proofs.Wordwise.{left_part, two_words}
use Rattle.instructions.proofs.bitruns.put_run.Goals as goal

pub to_word-requires-else-n-h : goal.to_word-requires-else-n-h
to_word-requires-else-n-h c =
    let a = c.args in
    let k = c.requires.0 in
    (record { small = k.small; words = k.words; some = omega arith; few = omega arith; upto = omega arith }, omega arith, left_part a.v (64 - a.at % 64) a.n (omega arith) c.requires.1)

pub to_word-requires-else-n-h-2 : goal.to_word-requires-else-n-h-2
to_word-requires-else-n-h-2 c =
    let w = c.to_word-else-n-h in
    let a = c.args in
    let k = c.requires.0 in
    let e : length w.new.m ≡ length a.m.now = w.ensures.as_long in
    (record { small = omega arith; words = rw e k.words; some = omega arith; few = omega arith; upto = omega arith }, omega arith, rw c.part.ensures (field_lt 64 (64 - (a.n - (64 - a.at % 64))) (a.n - (64 - a.at % 64)) a.v))

pub returns-else-n-h : goal.returns-else-n-h
returns-else-n-h c =
    let w' = c.to_word-else-n-h-2 in
    let w = c.to_word-else-n-h in
    let a = c.args in
    let k = c.requires.0 in
    two_words a.m.now w.new.m w'.new.m a.at (64 - a.at % 64) a.n a.v c.part.result (omega arith) (omega arith) k.upto c.requires.1 c.part.ensures w.ensures w'.ensures
