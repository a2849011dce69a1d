use Rattle.sz_cms.proofs.Types as types
use Rattle.sz_cms.proofs.laws.kinds_are_apart.Goals as goal

pub returns : goal.returns
returns c = types.kinds_are_apart
