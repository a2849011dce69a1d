use Rattle.sz_chain.specs.Sets.{has}
use Rattle.sz_chain.proofs.SetBits.{with_bit}
use Rattle.sz_chain.proofs.set.PlaceSet.with.Goals as goal

pub returns : goal.returns
unfolding has
returns c = λ other. with_bit c.args.self.bits c.args.place other c.requires
