use Rattle.sz_device.proofs.onboard_command.say_onboarded.Goals as goal

pub returns-in-Ok-clause-printed : goal.returns-in-Ok-clause-printed
returns-in-Ok-clause-printed g c = rw c.in-Ok.is c.say_report.ensures.printed
