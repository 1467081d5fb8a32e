-- `instructions::bitruns::pieces` meets its contract. Pieces that stay where they are, or are spread out.
use Rattle.instructions.proofs.Periodic.{masked}
use Rattle.instructions.proofs.bitruns.pieces.Goals as goal

pub returns-then-step-gap : goal.returns-then-step-gap
returns-then-step-gap c =
    let a = c.args in
    let pre = c.requires in masked a.x a.ones a.step a.n a.gap a.t pre.0 c.if-step-gap.true pre.4
