use Rattle.std.proofs.Common.{◌<◌, ℕ}
use Rattle.sz_chain.specs.Search.{Arrives, IsRow}
use Rattle.sz_chain.proofs.search.has_way.Given as goal

-- the row over so many issuers, and over fewer no anchor is reached
abbrev pub invariant-loop-issuers : goal.invariant-loop-issuers
invariant-loop-issuers l = IsRow l.nodes l._issuers l.row.items × ((n : ℕ) → n < l._issuers → Arrives l.nodes n → ⊥)
