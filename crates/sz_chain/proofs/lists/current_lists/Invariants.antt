use Rattle.std.proofs.Common.{◌≤◌, ℕ, List, Bor, length, map, take}
use Rattle.sz_chain.specs.Lists.{AreLists}
use Rattle.sz_chain.proofs.lists.current_lists.Given as goal

-- the lists among the strings so far
abbrev pub invariant-loop-bytes : goal.invariant-loop-bytes
invariant-loop-bytes l =
    AreLists l.when.0 (map (λ (one : Bor (List ℕ)). one.now) (take l.bytes-index l.bytes-items)) l.places l.wanted l.lists.items
    × (length l.lists.items ≤ l.bytes-index)
