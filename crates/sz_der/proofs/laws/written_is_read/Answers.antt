use Rattle.std.proofs.Common.{[], arith}
use Rattle.sz_der.proofs.Lists.{read_from_written, written_from_read, no_others, AreItems_from_ReadAs, ReadAs_from_AreItems, one_string_of_items}
use Rattle.sz_der.proofs.laws.written_is_read.Goals as goal

pub returns-clause-read : goal.returns-clause-read
returns-clause-read c = λ bytes items. read_from_written [] bytes items

pub returns-clause-written : goal.returns-clause-written
returns-clause-written c = λ bytes items. written_from_read bytes 0 items

pub returns-clause-joined : goal.returns-clause-joined
returns-clause-joined c = λ bytes items.
    (AreItems_from_ReadAs bytes 0 items, ReadAs_from_AreItems bytes 0 items (omega arith))

pub returns-clause-no_others : goal.returns-clause-no_others
returns-clause-no_others c = λ bytes items others. no_others bytes 0 items others

pub returns-clause-one_string : goal.returns-clause-one_string
returns-clause-one_string c = one_string_of_items
