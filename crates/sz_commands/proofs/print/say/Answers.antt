use Rattle.sz_commands.proofs.Parts.{refused-cause, refused-printed}
use Rattle.sz_commands.proofs.print.say.Goals as goal

pub returns-in-Err-clause-printed : goal.returns-in-Err-clause-printed
returns-in-Err-clause-printed g c = refused-printed _ _ c.in-Err.fault _ _ _ c.refusal_status.ensures c.in-Err.ensures.refused

pub returns-in-Err-clause-cause : goal.returns-in-Err-clause-cause
returns-in-Err-clause-cause g c = refused-cause (Unit {0}) c.in-Err.fault _ _ _ c.refusal_status.ensures c.in-Err.ensures.cause
