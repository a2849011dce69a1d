use Rattle.sz_http.proofs.Verdicts.{comes_to_an_end, verdict_stands}
use Rattle.sz_http.proofs.laws.verdicts_stand.Goals as goal

pub returns-clause-stands : goal.returns-clause-stands
returns-clause-stands c = verdict_stands

pub returns-clause-ends : goal.returns-clause-ends
returns-clause-ends c = comes_to_an_end
