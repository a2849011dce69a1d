use Rattle.std.proofs.Common.{arith}
use Rattle.sz_record.proofs.Fields.{takes_as}
use Rattle.sz_record.proofs.reading.read_handling.Goals as goal

pub returns-then-replaces-eq0-clause-taken : goal.returns-then-replaces-eq0-clause-taken
returns-then-replaces-eq0-clause-taken c =
    takes_as 0 c.in_ok-replaces.ensures.taken c.if-replaces-eq0.true

pub returns-else-replaces-eq0-clause-taken : goal.returns-else-replaces-eq0-clause-taken
returns-else-replaces-eq0-clause-taken c =
    takes_as 1 c.in_ok-replaces.ensures.taken (omega (arith, c.in_ok-replaces.ensures.taken.below, c.if-replaces-eq0.false))
