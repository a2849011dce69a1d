use Rattle.serde_json.specs.View.{view}
use Rattle.std.proofs.lemmas.Result.{err_from_is_err_and}
use Rattle.sz_json.specs.Form.{binary_of}
use Rattle.sz_json.specs.Member.{optional}
use Rattle.sz_rest.proofs.Faults.{own_fault}
use Rattle.sz_rest.specs.Reply.{size_fault_where}
use Rattle.sz_rest.proofs.evidence.optional_artifact.Goals as goal

pub returns-in_err-artifact-clause-refused : goal.returns-in_err-artifact-clause-refused
returns-in_err-artifact-clause-refused c =
    let p = err_from_is_err_and c.from_residual.result c.from_residual.ensures.1 in
    rw (p.1, p.2) (own_fault (optional binary_of c.args.name (view c.args.output.now)) size_fault_where _ c.in_err-artifact.ensures.refused)
