use Rattle.sz_cell.proofs.Elsewhere.{filled-elsewhere}
use Rattle.sz_cell.proofs.laws.stays_filled.Goals as goal

pub returns : goal.returns
returns g c before after pending payload next from n filled elsewhere torn =
    filled-elsewhere (g.D.Disk.seen before) (g.D.Disk.seen after) (g.met.D.Disk.lawful after) pending payload next from n elsewhere torn filled
