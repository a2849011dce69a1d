use Rattle.sz_chain.proofs.Anchored.{IsRound}
use Rattle.sz_chain.proofs.links.links_of.Given as goal

abbrev pub invariant-loop-round : goal.invariant-loop-round
invariant-loop-round l = IsRound l.when.0 l.places l._round l.links.items l.reached l.fresh
