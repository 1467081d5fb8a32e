-- `runs::performs::start` meets its contract.
use Rattle.runs.proofs.Striding.{proceeds_strode, starts_same, performs_same, other_way}
use Rattle.runs.proofs.performs.start.Goals as goal

pub returns-then-did-gt0 : goal.returns-then-did-gt0
returns-then-did-gt0 c = proceeds_strode _ _ c.args.rec _ _ _ c.requires.unmarked c.stride-did.ensures c.if-did-gt0.true

pub begin-requires : goal.begin-requires
begin-requires c =
    let none = c.if-did-gt0.false in (
      starts_same _ _ c.args.rec c.args.most _ _ _ c.stride-did.ensures none c.requires,
      other_way _ _ c.args.rec c.args.most _ _ _ c.stride-did.ensures none c.requires.some,
    )

pub returns : goal.returns
returns c = performs_same _ _ c.args.rec c.args.most _ _ _ c.stride-did.ensures c.if-did-gt0.false _ c.begin.result c.begin.ensures
