use Rattle.std.proofs.Common.{◌++◌, sym}
use Rattle.std.proofs.lemmas.Bool.{false≢true}
use Rattle.sz_http.specs.declared.side.Side.TheVariants.{Reply}
use Rattle.sz_image.proofs.Replies.{begins_more}
use Rattle.sz_image.proofs.incoming.Incoming.judge.Goals as goal

pub returns-in-Err-clause-refused : goal.returns-in-Err-clause-refused
returns-in-Err-clause-refused c space hash bytes body more ended closed takes =
    let begins = c.in-Some.ensures.parts Reply space bytes ended body takes in
    c.in-Err.ensures.refused space hash (bytes ++ more) (begins.0 ++ more) closed (begins_more bytes more begins.0 _ begins.1)

pub returns-in-Ok-clause-ok : goal.returns-in-Ok-clause-ok
returns-in-Ok-clause-ok c space bytes body ended takes headed =
    let begins = c.in-Some.ensures.parts Reply space bytes ended body takes in
    (λ yes. (_, c.in-Ok.ensures.ok bytes begins.0 begins.1), λ no. absurd (false≢true (sym no)))
