use Rattle.sz_der.proofs.Apart.{one_reading, one_string, no_beginning}
use Rattle.sz_der.proofs.laws.items_are_apart.Goals as goal

pub returns-clause-one_reading : goal.returns-clause-one_reading
returns-clause-one_reading c = one_reading

pub returns-clause-one_string : goal.returns-clause-one_string
returns-clause-one_string c = one_string

pub returns-clause-no_beginning : goal.returns-clause-no_beginning
returns-clause-no_beginning c = no_beginning
