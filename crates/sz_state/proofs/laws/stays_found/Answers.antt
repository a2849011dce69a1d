use Rattle.sz_state.proofs.Elsewhere.{held-elsewhere}
use Rattle.sz_state.proofs.laws.stays_found.Goals as goal

pub returns : goal.returns
returns g c before after held area is torn =
    held-elsewhere (g.D.Disk.seen before) (g.D.Disk.seen after) held area (g.met.D.Disk.lawful after) is torn
