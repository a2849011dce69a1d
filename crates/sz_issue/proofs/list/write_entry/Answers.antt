use Rattle.sz_issue.proofs.ListJoined.{entry_written}
use Rattle.sz_issue.proofs.list.write_entry.Goals as goal

pub returns : goal.returns
returns c =
    entry_written c.in_ok-parts.ensures c.in_ok-integer.ensures.ok c.in_ok-write_time.ensures c.as_slice.ensures c.in_ok-item.ensures.ok
