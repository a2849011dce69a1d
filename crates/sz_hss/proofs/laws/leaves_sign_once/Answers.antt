use Rattle.sz_hss.proofs.Once.{signed-once, tree-within}
use Rattle.sz_hss.proofs.laws.leaves_sign_once.Goals as goal

pub returns-clause-trees : goal.returns-clause-trees
returns-clause-trees c = tree-within

pub returns-clause-once : goal.returns-clause-once
returns-clause-once c key releases u other sound has has_other same = signed-once key releases u other sound has has_other same
