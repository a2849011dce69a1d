use Rattle.std.proofs.Common.{take}
use Rattle.sz_chain.specs.Links.{AreInOne}
use Rattle.sz_chain.proofs.links.in_one.Given as goal

-- the places of the sets so far
abbrev pub invariant-loop-issuers : goal.invariant-loop-issuers
invariant-loop-issuers l = AreInOne (take l.issuers-index l.links) l.all
