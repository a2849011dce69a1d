use Rattle.sz_dhcp.proofs.Reading4.{never_both4, one_fault4, one_reading4}
use Rattle.sz_dhcp.proofs.laws.messages4_have_one_reading.Goals as goal

pub returns-clause-one_list : goal.returns-clause-one_list
returns-clause-one_list c = one_reading4

pub returns-clause-one_fault : goal.returns-clause-one_fault
returns-clause-one_fault c = one_fault4

pub returns-clause-never_both : goal.returns-clause-never_both
returns-clause-never_both c = never_both4
