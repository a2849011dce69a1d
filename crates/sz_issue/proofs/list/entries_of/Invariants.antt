use Rattle.std.proofs.Common.{take}
use Rattle.sz_issue.specs.RevocationList.{AreWrittenEntries}
use Rattle.sz_issue.proofs.list.entries_of.Given as goal

abbrev pub invariant-loop-serial : goal.invariant-loop-serial
invariant-loop-serial l = AreWrittenEntries l.date.0 (take l.serial-index l.serials) l.entries
