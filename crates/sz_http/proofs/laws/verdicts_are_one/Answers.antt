use Rattle.sz_http.proofs.Once.{verdict_once}
use Rattle.sz_http.proofs.laws.verdicts_are_one.Goals as goal

pub returns : goal.returns
returns c = verdict_once
