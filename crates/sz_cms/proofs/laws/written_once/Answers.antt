use Rattle.sz_cms.proofs.WrittenOnce.{one_attributes, one_bag, one_message}
use Rattle.sz_cms.proofs.laws.written_once.Goals as goal

pub returns-clause-attributes : goal.returns-clause-attributes
returns-clause-attributes c = one_attributes

pub returns-clause-message : goal.returns-clause-message
returns-clause-message c = one_message

pub returns-clause-certs : goal.returns-clause-certs
returns-clause-certs c = one_bag
