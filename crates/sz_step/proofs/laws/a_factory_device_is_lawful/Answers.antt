use Rattle.sz_step.proofs.laws.a_factory_device_is_lawful.Goals as goal

pub returns : goal.returns
returns c identity = record { image = tt; onboarded = tt }
