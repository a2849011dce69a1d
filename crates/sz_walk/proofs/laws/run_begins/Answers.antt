use Rattle.sz_walk.proofs.Running.{begins}
use Rattle.sz_walk.proofs.laws.run_begins.Goals as goal

pub returns : goal.returns
returns g c trial = begins (g.T.Tries.tries trial)
