use Rattle.sz_chain.specs.Sets.{has}
use Rattle.sz_chain.proofs.SetBits.{or_bits}
use Rattle.sz_chain.proofs.set.PlaceSet.or.Goals as goal

pub returns : goal.returns
unfolding has
returns c = or_bits c.args.self.bits c.args.others.bits
