use Rattle.sz_base.proofs.ReadPairs.{AreReadUpTo}
use Rattle.sz_base.proofs.encodings.colon_hex.Given as goal

abbrev pub invariant-loop-k : goal.invariant-loop-k
invariant-loop-k l = AreReadUpTo l.text l.bytes l.k
