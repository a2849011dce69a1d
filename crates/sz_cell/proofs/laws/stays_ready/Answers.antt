use Rattle.sz_cell.proofs.Elsewhere.{ready-elsewhere}
use Rattle.sz_cell.proofs.laws.stays_ready.Goals as goal

pub returns : goal.returns
returns g c before after kept payload from n ready elsewhere torn =
    ready-elsewhere (g.D.Disk.seen before) (g.D.Disk.seen after) (g.met.D.Disk.lawful after) kept from n elsewhere torn payload ready
