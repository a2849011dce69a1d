use Rattle.sz_artifacts.proofs.Pairs.{hash_of_text-pairs, IsColonHex-hash_of_text}
use Rattle.sz_artifacts.proofs.conveyed.laws.hashes_are_pairs.Goals as goal

pub returns : goal.returns
returns c = λ text bytes. (IsColonHex-hash_of_text text bytes, hash_of_text-pairs text bytes)
