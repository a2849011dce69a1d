use Rattle.std.proofs.Common.{◌≡◌, length}
use Rattle.sz_chain.proofs.Anchored.{AreMoreSoFar}
use Rattle.sz_chain.proofs.links.more_links.Given as goal

-- the sets of the certificates so far
abbrev pub invariant-loop-at : goal.invariant-loop-at
invariant-loop-at l = (length l.more.items ≡ l.at) × AreMoreSoFar l.when.0 l.places l.fresh l.links l.more.items
