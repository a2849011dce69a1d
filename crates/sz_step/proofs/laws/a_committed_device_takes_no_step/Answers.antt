use Rattle.sz_step.proofs.Stepping.{no_step}
use Rattle.sz_step.proofs.laws.a_committed_device_takes_no_step.Goals as goal

pub returns : goal.returns
returns c = no_step
