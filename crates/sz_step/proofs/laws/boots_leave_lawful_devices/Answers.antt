use Rattle.std.proofs.Common.{refl}
use Rattle.sz_state.specs.Step.{factory}
use Rattle.sz_step.proofs.Listing.{follow_identity, follow_lawful}
use Rattle.sz_step.proofs.laws.boots_leave_lawful_devices.Goals as goal

pub returns-clause-lawful : goal.returns-clause-lawful
returns-clause-lawful c identity boots follow =
    follow_lawful (factory identity) boots (record { image = tt; onboarded = tt }) follow

pub returns-clause-identity : goal.returns-clause-identity
returns-clause-identity c identity boots follow = follow_identity identity (factory identity) boots refl follow
