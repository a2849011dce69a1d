use Rattle.std.proofs.lemmas.Result.{IfErr-weaker}
use Rattle.sz_dhcp.proofs.message6.push_list.Goals as goal

pub returns-then-option-eq-SZTP_REDIRECT-clause-refused : goal.returns-then-option-eq-SZTP_REDIRECT-clause-refused
returns-then-option-eq-SZTP_REDIRECT-clause-refused c =
    IfErr-weaker c.push_targets.result _ _
    (λ fault is kind place e. let found = is kind place e in (found.0, c.if-option-eq-SZTP_REDIRECT.true, found.1))
    c.push_targets.ensures.refused
