use Rattle.sz_walk.proofs.Running.{accepted, passed, turned_down}
use Rattle.sz_walk.proofs.laws.run_goes_on.Goals as goal

pub returns-clause-passed : goal.returns-clause-passed
returns-clause-passed g c trial = passed (g.T.Tries.tries trial)

pub returns-clause-turned_down : goal.returns-clause-turned_down
returns-clause-turned_down g c trial = turned_down (g.T.Tries.tries trial)

pub returns-clause-accepted : goal.returns-clause-accepted
returns-clause-accepted g c trial = accepted (g.T.Tries.tries trial)
