use Rattle.sz_cell.proofs.Elsewhere.{cleared-elsewhere}
use Rattle.sz_cell.proofs.laws.stays_cleared.Goals as goal

pub returns : goal.returns
returns g c before after kept payload from n cleared elsewhere torn =
    cleared-elsewhere (g.D.Disk.seen before) (g.D.Disk.seen after) (g.met.D.Disk.lawful after) kept from n elsewhere torn payload cleared
