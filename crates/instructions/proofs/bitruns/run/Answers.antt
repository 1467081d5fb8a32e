-- `instructions::bitruns::run` meets its contract. Bits in one word, or in two side by side.
use mathlib.Core.Path.{◌≡◌, ap, ◌∙◌}
use Prim.Native.Nat.{ℕ, ◌+◌, ◌-◌, ◌%◌}
use native.Mathlib.Omega.{arith}
use Rattle.fields.specs.Bytes.{num, size}
use Rattle.fields.specs.Field.{field}
use Rattle.instructions.proofs.Wordwise.{joined_bits}
use Rattle.instructions.proofs.bitruns.run.Goals as goal

pub returns-else-n-h : goal.returns-else-n-h
returns-else-n-h c =
    let in-word3 = c.in_word-y in
    let in-word2 = c.in_word-x in
    let a = c.args in
    let h : ℕ = 64 - a.at % 64 in
    let l : ℕ = a.n - h in
    let e : h + l ≡ a.n = omega arith in
    joined_bits (size a.m.now) a.at h l (num a.m.now) in-word2.result in-word3.result (omega arith) (omega arith) in-word2.ensures in-word3.ensures
    ∙ ap (λ (n : ℕ). field (size a.m.now) a.at n (num a.m.now)) e
