-- The search for a way from certificates that signed up to an anchor, over numbered nodes: what can be reached by so
-- many issuers, and the fewest of them that count against a path length.
use Rattle.std.specs.Prelude.{◌≡◌, ◌≤◌, ◌<◌, ◌+◌, ℕ, zero, suc, min, true, List, length, Option, Some, None}
use Rattle.sz_chain.specs.Chain.{IsWithin, most_certs, one_if}
use Rattle.sz_chain.specs.Sets.{At, has}
use Rattle.sz_chain.specs.declared.node.Node.{Node}

-- a node that is reached with so many that count is issued by this one, which takes so many below it; then so many
-- count
pub record Climbs (lower : Node) (at : ℕ) (upper : Node) (before count : ℕ) : Type 0 where
  pub issued : has lower.issuers at ≡ true
  pub within : IsWithin upper.limit before
  pub counted : count ≡ before + one_if upper.is_counted

-- the node at this place is reached from one below it, which is reached as told
pub record IsReachedFrom (nodes : List Node) (Before : ℕ → ℕ → Type 0) (count at : ℕ) : Type 0 where
  pub before : ℕ
  pub below : ℕ
  pub lower : Node
  pub upper : Node
  pub is_lower : At nodes below lower
  pub is_upper : At nodes at upper
  pub reached : Before before below
  pub climbs : Climbs lower at upper before count

-- a way begins at the node
pub record IsBegun (nodes : List Node) (count at : ℕ) : Type 0 where
  pub node : Node
  pub is_node : At nodes at node
  pub is_start : node.is_start ≡ true
  pub counted : count ≡ 0

-- so many issuers above a node where it begins, a way leads to the node at this place; so many of the issuers count
unfoldable pub Reaches : List Node → ℕ → ℕ → ℕ → Type 0
Reaches nodes zero count at = IsBegun nodes count at
Reaches nodes (suc n) count at = IsReachedFrom nodes (Reaches nodes n) count at

-- the least number that is so, or None where none is
abbrev pub IsLeast : (ℕ → Type 0) → Option ℕ → Type 0
IsLeast Is None = (k : ℕ) → Is k → ⊥
IsLeast Is (Some least) = Is least × ((k : ℕ) → Is k → least ≤ k)

-- the lesser number, where there is one
abbrev pub lesser : Option ℕ → Option ℕ → Option ℕ
lesser (Some one) (Some other) = Some (min one other)
lesser (Some one) None = Some one
lesser None other = other

-- for each node the least number that count, on the ways to it over so many issuers
pub record IsRow (nodes : List Node) (n : ℕ) (row : List (Option ℕ)) : Type 0 where
  pub as_many : length row ≡ length nodes
  pub each : (at : ℕ) (least : Option ℕ) → At row at least → IsLeast (λ count. Reaches nodes n count at) least

-- one more can be counted
abbrev pub AreFew : List (Option ℕ) → Type 0
AreFew row = (at : ℕ) (count : ℕ) → At row at (Some count) → count < 255

-- of the first nodes one leads on to this one with so many that count
pub record IsOffered (nodes : List Node) (row : List (Option ℕ)) (first at : ℕ) (upper : Node) (count : ℕ)
    : Type 0 where
  pub before : ℕ
  pub below : ℕ
  pub lower : Node
  pub is_first : below < first
  pub is_lower : At nodes below lower
  pub is_before : At row below (Some before)
  pub climbs : Climbs lower at upper before count

-- an anchor is reached over so many issuers
pub record Arrives (nodes : List Node) (n : ℕ) : Type 0 where
  pub count : ℕ
  pub at : ℕ
  pub anchor : Node
  pub is_node : At nodes at anchor
  pub is_anchor : anchor.is_anchor ≡ true
  pub reached : Reaches nodes n count at

-- the row has an anchor
pub record HasAnchor (nodes : List Node) (row : List (Option ℕ)) (first : ℕ) : Type 0 where
  pub count : ℕ
  pub at : ℕ
  pub anchor : Node
  pub is_first : at < first
  pub is_node : At nodes at anchor
  pub is_anchor : anchor.is_anchor ≡ true
  pub is_reached : At row at (Some count)

-- a way leads to an anchor
abbrev pub HasWay : List Node → Type 0
HasWay nodes = (n : ℕ) × (n ≤ most_certs) × Arrives nodes n
