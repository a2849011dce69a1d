use Rattle.std.proofs.Common.{take}
use Rattle.std.proofs.lemmas.List.{take_more}
use Rattle.sz_issue.proofs.ListJoined.{entry_last}
use Rattle.sz_issue.proofs.list.entries_of.Goals as goal

pub loop-serial-preserved : goal.loop-serial-preserved
loop-serial-preserved c =
    rw (take_more c.args.serials.now c.loop-serial.serial-index 0 c.loop-serial-test.true)
    (entry_last c.args.date.0 (take c.loop-serial.serial-index c.args.serials.now) _ c.loop-serial.entries c.write_entry.new.out c.loop-serial.invariant
    c.in_ok-write_entry.ensures)
