use Rattle.std.proofs.Common.{sym, ◌∙◌, arith}
use Rattle.sz_disk.proofs.Picks.{turn-small, other-small, picked-old, picked-new, picked-other}
use Rattle.sz_disk.proofs.choice.picked_byte.Goals as goal

pub returns-in-0-2 : goal.returns-in-0-2
returns-in-0-2 c =
    picked-old c.args.choice c.args.rank c.args.old c.args.new (omega arith) (omega arith) (sym (turn-small c.args.choice c.args.rank) ∙ c.in-0-2.is)

pub returns-in-1-2 : goal.returns-in-1-2
returns-in-1-2 c =
    picked-new c.args.choice c.args.rank c.args.old c.args.new (omega arith) (omega arith) (sym (turn-small c.args.choice c.args.rank) ∙ c.in-1-2.is)

pub returns-in_default-2 : goal.returns-in_default-2
returns-in_default-2 c =
    let turn = turn-small c.args.choice c.args.rank in
    other-small c.args.choice c.args.rank ∙ picked-other c.args.choice c.args.rank c.args.old c.args.new (omega arith) (omega arith) (omega arith) (omega arith)
