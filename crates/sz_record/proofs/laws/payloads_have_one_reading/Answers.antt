use Rattle.sz_record.proofs.Once.{one_device}
use Rattle.sz_record.proofs.Parts.{stored_is_right}
use Rattle.sz_record.proofs.laws.payloads_have_one_reading.Goals as goal

pub returns-clause-never_both : goal.returns-clause-never_both
returns-clause-never_both c = stored_is_right

pub returns-clause-one_device : goal.returns-clause-one_device
returns-clause-one_device c = one_device
