use Rattle.sz_http.specs.Parts.{parts_of}
use Rattle.sz_rest.proofs.Rules.{body_refused}
use Rattle.sz_rest.proofs.asked.posted.Goals as goal

pub returns-then-not-taken-clause-refused : goal.returns-then-not-taken-clause-refused
returns-then-not-taken-clause-refused c =
    body_refused (parts_of c.args.head.now) c.args.body.now c.in_ok-named.named c.in-Some.serial c.in_ok-taken.taken _ c.requires.target
    c.requires.method c.in_ok-named.ensures c.in-Some.is c.in_ok-taken.ensures c.if-not-taken.true c.refused-then-not-taken.ensures
