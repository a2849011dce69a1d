use Rattle.sz_walk.proofs.Running.{own_few}
use Rattle.sz_walk.proofs.laws.visits_own_few.Goals as goal

pub returns : goal.returns
returns g c trial = own_few (g.T.Tries.tries trial)
