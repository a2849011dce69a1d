use Rattle.sz_record.proofs.Parts.{stored_is_storable}
use Rattle.sz_record.proofs.laws.devices_are_rewritten.Goals as goal

pub returns : goal.returns
returns c = stored_is_storable
