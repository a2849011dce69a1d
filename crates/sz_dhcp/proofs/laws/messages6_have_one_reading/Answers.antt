use Rattle.sz_dhcp.proofs.Reading6.{never_both6, one_fault6, one_reading6}
use Rattle.sz_dhcp.proofs.laws.messages6_have_one_reading.Goals as goal

pub returns-clause-one_list : goal.returns-clause-one_list
returns-clause-one_list c = one_reading6

pub returns-clause-one_fault : goal.returns-clause-one_fault
returns-clause-one_fault c = one_fault6

pub returns-clause-never_both : goal.returns-clause-never_both
returns-clause-never_both c = never_both6
