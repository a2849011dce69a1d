use Rattle.std.proofs.Common.{◌≡◌, ℕ, List, Option, length}
use Rattle.sz_chain.specs.Sets.{At}
use Rattle.sz_chain.specs.Ways.{AreSteps, IsNodeOf}
use Rattle.sz_chain.specs.declared.node.Node.{Node}
use Rattle.sz_chain.specs.declared.place.Place.{Place}
use Rattle.sz_chain.proofs.node.nodes_of.Given as goal

-- the nodes of the certificates so far
abbrev pub invariant-loop-at : goal.invariant-loop-at
invariant-loop-at l =
    (length l.nodes.items ≡ l.at)
    × ((at : ℕ) (node : Node) → At l.nodes.items at node → (crls : Option (List (List ℕ))) → AreSteps crls l.when.0 l.places l.steps →
    (place : Place) → At l.places at place → IsNodeOf crls l.when.0 l.signers l.places at place node)
