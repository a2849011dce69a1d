use Rattle.std.proofs.Common.{◌≡◌, ℕ, Option, length}
use Rattle.sz_chain.specs.Search.{IsLeast, Reaches}
use Rattle.sz_chain.specs.Sets.{At}
use Rattle.sz_chain.proofs.search.first_row.Given as goal

abbrev pub invariant-loop-node : goal.invariant-loop-node
invariant-loop-node l =
    (length l.row.items ≡ l.node-index)
    × ((at : ℕ) (least : Option ℕ) → At l.row.items at least → IsLeast (λ count. Reaches l.nodes 0 count at) least)
