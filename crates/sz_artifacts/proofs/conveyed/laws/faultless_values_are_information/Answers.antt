use Rattle.sz_artifacts.proofs.Faultless.{conveyed_fault_none, read_conveyed}
use Rattle.sz_artifacts.proofs.OneInformation.{one_conveyed}
use Rattle.sz_artifacts.proofs.conveyed.laws.faultless_values_are_information.Goals as goal

pub returns-clause-exactly : goal.returns-clause-exactly
returns-clause-exactly c = λ value. (read_conveyed value, λ found. conveyed_fault_none value found.0 found.1)

pub returns-clause-one_reading : goal.returns-clause-one_reading
returns-clause-one_reading c = one_conveyed
