use Rattle.std.proofs.Common.{Some, ap, sym, refl, subst}
use Rattle.std.proofs.lemmas.Result.{IfOk-weaker, MatchResult-weaker}
use Rattle.sz_base.specs.Host.{IsHost}
use Rattle.sz_artifacts.proofs.Addresses.{host_of-host, host_of-ipv6, host_of-none}
use Rattle.sz_artifacts.proofs.conveyed.redirect.host_of_text.Goals as goal

pub returns-in-Ok-clause-ok : goal.returns-in-Ok-clause-ok
returns-in-Ok-clause-ok c = rw c.in-Ok.ensures.reads.ok (host_of-host c.args.text.now c.in-Ok.ensures.reads.form)

pub returns-in-Err-Form-clause-ok : goal.returns-in-Err-Form-clause-ok
returns-in-Err-Form-clause-ok c =
    let refused = rw c.in-Err-Form.field-0-is at c.in-Err-Form.ensures.reads.refused in
    IfOk-weaker c.bracketed.result _ _
    (λ host h. rw h.0 (host_of-ipv6 c.args.text.now (refused.0 refl) (subst IsHost h.0 h.1)))
    c.bracketed.ensures.ok

pub returns-in-Err-Form-clause-refused : goal.returns-in-Err-Form-clause-refused
returns-in-Err-Form-clause-refused c =
    let refused = rw c.in-Err-Form.field-0-is at c.in-Err-Form.ensures.reads.refused in
    MatchResult-weaker c.bracketed.result c.bracketed.ensures.refused
    (λ host h. h)
    (λ fault h name same. let known = h name same in rw (host_of-none c.args.text.now (refused.0 refl) known.1) (ap Some (sym known.0)))
