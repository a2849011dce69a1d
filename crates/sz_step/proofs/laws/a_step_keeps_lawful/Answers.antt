use Rattle.sz_step.proofs.Stepping.{step_lawful}
use Rattle.sz_step.proofs.laws.a_step_keeps_lawful.Goals as goal

pub returns : goal.returns
returns c = step_lawful
