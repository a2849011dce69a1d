use Rattle.sz_cms.specs.Places.{info_at}
use Rattle.sz_cms.proofs.Whole.{info_clear, InfoOf_from_none, one_message}
use Rattle.sz_cms.proofs.laws.fault_or_message.Goals as goal

pub returns-clause-exactly : goal.returns-clause-exactly
returns-clause-exactly c = λ bytes fits. (λ n. (info_at bytes, InfoOf_from_none bytes fits n), λ is. (info_clear bytes is.0 is.1).no_fault)

pub returns-clause-one_message : goal.returns-clause-one_message
returns-clause-one_message c = one_message

pub returns-clause-places : goal.returns-clause-places
returns-clause-places c = λ bytes info is. (info_clear bytes info is).value_is
