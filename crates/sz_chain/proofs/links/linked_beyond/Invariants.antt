use Rattle.std.proofs.Common.{◌≡◌, false}
use Rattle.sz_chain.specs.Links.{HasPlace}
use Rattle.sz_chain.specs.Sets.{AreFirst, has}
use Rattle.sz_chain.proofs.links.linked_beyond.Given as goal

-- of the places so far those are in the set that have an issuer and were not reached
abbrev pub invariant-loop-at : goal.invariant-loop-at
invariant-loop-at l = AreFirst l.at l.links (λ at issuers. HasPlace issuers × (has l.reached at ≡ false)) l.linked
