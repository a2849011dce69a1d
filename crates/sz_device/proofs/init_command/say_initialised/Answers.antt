use Rattle.sz_device.proofs.init_command.say_initialised.Goals as goal

pub returns-in-Ok-clause-printed : goal.returns-in-Ok-clause-printed
returns-in-Ok-clause-printed g c = rw c.in-Ok.is (rw c.as_slice.ensures.bytes at c.say.ensures.printed)
