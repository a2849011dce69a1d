use Rattle.std.proofs.Common.{◌≡◌, ◌≤◌, ◌++◌, ℕ, List, Bor, length, map, take}
use Rattle.sz_chain.specs.Places.{AreOf}
use Rattle.sz_chain.specs.declared.place.Place.{Place}
use Rattle.sz_chain.proofs.place.add_readable.Given as goal

-- what was put last are the certificates among the strings so far
abbrev pub invariant-loop-bytes : goal.invariant-loop-bytes
invariant-loop-bytes l =
    (added : List Place) × (l.places.items ≡ l.initial.places.items ++ added)
    × AreOf l.is_anchor (map (λ (one : Bor (List ℕ)). one.now) (take l.bytes-index l.bytes-items)) added
    × (length added ≤ l.bytes-index)
