use Rattle.std.proofs.Common.{◌==◌, ℕ, ap}
use Rattle.std.proofs.lemmas.Nat.Bits.{shr_and_one}
use Rattle.sz_chain.specs.Sets.{has}
use Rattle.sz_chain.proofs.set.PlaceSet.has.Goals as goal

pub returns : goal.returns
unfolding has
returns c = ap (λ (n : ℕ). n == 1) (shr_and_one c.args.self.bits c.args.place)
