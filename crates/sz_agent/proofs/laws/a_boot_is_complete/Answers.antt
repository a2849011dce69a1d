use Rattle.sz_agent.proofs.Completing.{complete}
use Rattle.sz_agent.proofs.laws.a_boot_is_complete.Goals as goal

pub returns : goal.returns
returns g c = complete g.D.Disk.seen
