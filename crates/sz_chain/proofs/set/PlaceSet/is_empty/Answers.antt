use Rattle.sz_chain.specs.Sets.{has}
use Rattle.sz_chain.proofs.SetBits.{empty_bits}
use Rattle.sz_chain.proofs.set.PlaceSet.is_empty.Goals as goal

pub returns : goal.returns
unfolding has
returns c = empty_bits c.args.self.bits
