use Rattle.std.proofs.Common.{arith}
use Rattle.sz_state.specs.Step.{factory}
use Rattle.sz_step.proofs.Listing.{follow_once}
use Rattle.sz_step.proofs.laws.a_device_is_committed_once.Goals as goal

pub returns : goal.returns
returns c identity boots follow = omega (arith, follow_once (factory identity) boots follow)
