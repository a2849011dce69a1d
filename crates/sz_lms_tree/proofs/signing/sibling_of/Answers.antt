use Rattle.sz_lms_tree.proofs.Places.{bit_xor-one}
use Rattle.sz_lms_tree.proofs.signing.sibling_of.Goals as goal

pub returns : goal.returns
returns c = bit_xor-one c.args.r
