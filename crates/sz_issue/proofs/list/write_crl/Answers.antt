use Rattle.std.proofs.Common.{ℕ, List}
use Rattle.std.proofs.lemmas.Result.{IfOk-weaker}
use Rattle.sz_issue.specs.Parts.{IsSignedForm}
use Rattle.sz_issue.specs.RevocationList.{signed_list}
use Rattle.sz_issue.proofs.ListSaid.{is_list}
use Rattle.sz_issue.proofs.list.write_crl.Goals as goal
use Rattle.sz_x509.specs.RevocationList.{CrlOf}

pub returns-clause-list : goal.returns-clause-list
returns-clause-list c =
    λ fields is. IfOk-weaker c.join_signed.result (IsSignedForm c.args.tbs.now c.args.signature.now)
    (λ (whole : List ℕ). CrlOf whole (signed_list fields c.args.tbs.now c.args.signature.now whole))
    (λ whole. is_list fields c.args.tbs.now c.args.signature.now whole is) c.join_signed.ensures
