use Rattle.std.proofs.Common.{◌≡◌, ℕ, length}
use Rattle.sz_chain.specs.Sets.{At}
use Rattle.sz_chain.specs.declared.place.Place.{Place}
use Rattle.sz_chain.specs.declared.set.PlaceSet.{PlaceSet}
use Rattle.sz_chain.proofs.Clears.{AreClearing}
use Rattle.sz_chain.proofs.node.cleared_links.Given as goal

-- the issuers that clear, of each certificate so far
abbrev pub invariant-loop-at : goal.invariant-loop-at
invariant-loop-at l =
    (length l.cleared.items ≡ l.at)
    × ((at : ℕ) (cleared : PlaceSet) → At l.cleared.items at cleared → (cert : Place) (issuers : PlaceSet) → At l.places at cert →
    At l.links at issuers → AreClearing l.lists (length l.places) issuers cert.cert.serial.now cleared)
