use Rattle.sz_ask.proofs.Comings.{has_reply}
use Rattle.sz_ask.proofs.incoming.Incoming.reply.Goals as goal

pub returns : goal.returns
returns c = λ bytes closed come.
    rw c.as_slice.ensures (has_reply bytes closed c.args.self.now c.status.result come (c.status.ensures bytes closed come))
