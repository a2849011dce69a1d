use Rattle.std.proofs.Common.{◌==◌, ℕ, ap}
use Rattle.std.proofs.lemmas.Nat.Bits.{bit_at-zero}
use Rattle.sz_chain.specs.Sets.{has}
use Rattle.sz_chain.proofs.set.PlaceSet.empty.Goals as goal

pub returns : goal.returns
unfolding has
returns c = λ place. ap (λ (n : ℕ). n == 1) (bit_at-zero place)
