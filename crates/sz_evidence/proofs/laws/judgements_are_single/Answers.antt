use Rattle.sz_evidence.proofs.EveryJudgement.{some_judgement}
use Rattle.sz_evidence.proofs.OneJudgement.{one_judgement}
use Rattle.sz_evidence.proofs.laws.judgements_are_single.Goals as goal

pub returns-clause-one_answer : goal.returns-clause-one_answer
returns-clause-one_answer c = one_judgement

pub returns-clause-never_none : goal.returns-clause-never_none
returns-clause-never_none c = some_judgement
