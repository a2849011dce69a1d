use Rattle.sz_record.proofs.Numbers.{bytes_short, bytes_split}
use Rattle.sz_record.proofs.unread.Unread.take.Goals as goal

pub returns-in-Some-clause-taken : goal.returns-in-Some-clause-taken
returns-in-Some-clause-taken c =
    let h = c.in-Some.ensures.cases in
    bytes_split _ _ _ _ h.0 h.1 h.2 h.3

pub returns-in-None-clause-wrong : goal.returns-in-None-clause-wrong
returns-in-None-clause-wrong c = bytes_short _ _ c.in-None.ensures.cases
