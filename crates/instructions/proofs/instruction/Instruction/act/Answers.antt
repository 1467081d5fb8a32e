use mathlib.Core.Path.{refl}
use Rattle.instructions.proofs.Readied.{reached}
use Rattle.instructions.proofs.Stepped.{apply_asks, act_did}
use Rattle.instructions.proofs.instruction.Instruction.act.Goals as goal

pub outcome-u-requires : goal.outcome-u-requires
outcome-u-requires c = reached _ _ _ _ c.requires.0

pub apply-requires : goal.apply-requires
apply-requires c = (c.requires.2, apply_asks _ _ _ c.outcome-u.result c.outcome-u.ensures (reached _ _ _ _ c.requires.0))

pub returns : goal.returns
returns c = act_did _ _ _ _ _ c.args.flags _ _ c.outcome-u.result _ _ c.outcome-u.ensures c.apply.ensures refl c.next_p.ensures
