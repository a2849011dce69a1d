use Rattle.sz_der.proofs.Places.{StandsAt_from_BeginsWith}
use Rattle.sz_der.proofs.reader.DerReader.take_item.Goals as goal

pub returns-in-Ok-clause-only : goal.returns-in-Ok-clause-only
returns-in-Ok-clause-only c = λ tag content whole rest front.
    c.in-Ok.ensures.only tag content whole (StandsAt_from_BeginsWith c.args.self.now.left.now 0 tag content whole rest front)

pub returns-in-Err-clause-only : goal.returns-in-Err-clause-only
returns-in-Err-clause-only c = λ tag content whole rest front.
    c.in-Err.ensures.only tag content whole (StandsAt_from_BeginsWith c.args.self.now.left.now 0 tag content whole rest front)
