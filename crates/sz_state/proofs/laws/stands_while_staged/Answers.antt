use Rattle.sz_state.proofs.Elsewhere.{stands-elsewhere}
use Rattle.sz_state.proofs.laws.stands_while_staged.Goals as goal

pub returns : goal.returns
returns g c before after device stands torn =
    stands-elsewhere (g.D.Disk.seen before) (g.D.Disk.seen after) device (g.met.D.Disk.lawful before) stands torn
