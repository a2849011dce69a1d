use Rattle.std.proofs.Common.{ℕ, List}
use Rattle.std.proofs.lemmas.Result.{IfOk-weaker}
use Rattle.sz_issue.specs.RevocationList.{crl_values, IsWrittenTbsList, SaysList}
use Rattle.sz_issue.proofs.ListSaid.{says}
use Rattle.sz_issue.proofs.list.write_crl_tbs.Goals as goal
use Rattle.sz_x509.specs.RevocationList.{IsTbsList, RevocationList}

pub returns-clause-says : goal.returns-clause-says
returns-clause-says c =
    let values = crl_values c.args.spec.now in
    IfOk-weaker c.write_each.result (IsWrittenTbsList values)
    (λ (tbs : List ℕ). (fields : RevocationList) × SaysList values fields × IsTbsList fields tbs) (says values) c.write_each.ensures
