use Rattle.sz_der.proofs.Steps.{next_byte, no_next_byte}
use Rattle.sz_der.proofs.parts.is_next.Goals as goal

pub returns-in-Some : goal.returns-in-Some
returns-in-Some c = next_byte c.args.reader.now c.args.tag c.in-Some.first.now c.in-Some.ensures.value

pub returns-in-None : goal.returns-in-None
returns-in-None c = no_next_byte c.args.reader.now c.args.tag c.in-None.ensures.value
