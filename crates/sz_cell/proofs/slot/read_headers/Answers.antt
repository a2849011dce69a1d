use Rattle.sz_cell.proofs.slot.read_headers.Goals as goal

pub returns-clause-headers : goal.returns-clause-headers
returns-clause-headers g c =
    let synced = c.in_ok-sync.ensures.ok.quiet.reads in (
      rw (← synced) c.in_ok-first.ensures.header,
      rw (← synced, ← c.read_header.ensures.quiet.reads) c.in_ok-second.ensures.header,
    )
