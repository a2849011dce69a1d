use Rattle.sz_http.specs.declared.side.Side.TheVariants as side
use Rattle.sz_ask.specs.Limits.{most_reply_bytes}
use Rattle.std.proofs.Common.{refl}
use Rattle.sz_ask.proofs.Comings.{came_to_end}
use Rattle.sz_ask.proofs.incoming.Incoming.end.Goals as goal

pub returns-clause-ok : goal.returns-clause-ok
returns-clause-ok c = λ bytes coming.
    came_to_end c.args.self.now (record { reading = c.ended.new.self; body = c.args.self.now.body }) bytes
    (c.in_ok-ended.ensures.answers side.Reply most_reply_bytes bytes c.args.self.now.body coming) refl
