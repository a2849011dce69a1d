use Rattle.std.proofs.Common.{◌≡◌, ◌+◌, ℕ, Option, length}
use Rattle.sz_chain.specs.Search.{IsLeast, IsRow, Reaches}
use Rattle.sz_chain.specs.Sets.{At}
use Rattle.sz_chain.proofs.search.next_row.Given as goal

abbrev pub invariant-loop-at : goal.invariant-loop-at
invariant-loop-at l =
    (length l.next.items ≡ l.at)
    × ((at : ℕ) (least : Option ℕ) → At l.next.items at least → (n : ℕ) → IsRow l.nodes n l.row →
    IsLeast (λ count. Reaches l.nodes (n + 1) count at) least)
