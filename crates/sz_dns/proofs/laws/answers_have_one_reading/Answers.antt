use Rattle.sz_dns.proofs.Reading.{never_both, one_fault, one_reading}
use Rattle.sz_dns.proofs.laws.answers_have_one_reading.Goals as goal

pub returns-clause-one_list : goal.returns-clause-one_list
returns-clause-one_list c = one_reading

pub returns-clause-one_fault : goal.returns-clause-one_fault
returns-clause-one_fault c = one_fault

pub returns-clause-never_both : goal.returns-clause-never_both
returns-clause-never_both c = never_both
