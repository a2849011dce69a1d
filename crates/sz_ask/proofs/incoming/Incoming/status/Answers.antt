use Rattle.sz_http.specs.declared.side.Side.TheVariants as side
use Rattle.sz_ask.specs.Limits.{most_reply_bytes}
use Rattle.sz_ask.proofs.Comings.{has_head, has_status}
use Rattle.sz_ask.proofs.incoming.Incoming.status.Goals as goal

pub returns-in-Some : goal.returns-in-Some
returns-in-Some c = λ bytes closed come.
    let begins = c.in-Some.ensures.parts side.Reply most_reply_bytes come.reply closed c.args.self.now.body come.taken in
    has_status bytes closed c.args.self.now come _ begins.0 begins.1

pub returns-in-None : goal.returns-in-None
returns-in-None c = λ bytes closed come.
    absurd (has_head bytes closed c.args.self.now come
    (c.in-None.ensures.none side.Reply most_reply_bytes come.reply closed c.args.self.now.body come.taken))
