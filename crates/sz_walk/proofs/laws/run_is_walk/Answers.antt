use Rattle.sz_walk.proofs.Running.{is_walk}
use Rattle.sz_walk.proofs.laws.run_is_walk.Goals as goal

pub returns : goal.returns
returns g c trial = is_walk (g.T.Tries.tries trial)
