use Rattle.sz_evidence.proofs.OneIdentity.{one_reading, some_reading}
use Rattle.sz_evidence.proofs.laws.identities_are_single.Goals as goal

pub returns-clause-one_answer : goal.returns-clause-one_answer
returns-clause-one_answer c = one_reading

pub returns-clause-never_none : goal.returns-clause-never_none
returns-clause-never_none c = some_reading
