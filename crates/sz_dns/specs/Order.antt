-- The order in which targets are taken (RFC 2782).
use Rattle.std.specs.Prelude.{List}
use Rattle.std.specs.Ordering.{nat_cmp}
use Rattle.std.specs.List.Sorted.{IsNonDecreasingBy, IsPermutation, IsStableByKey}
use Rattle.sz_dns.specs.declared.service.Candidate.{Candidate}

-- The candidates by priority, the lowest first, and those of one priority in the order in which they stood: the list is
-- sorted, and stably.
pub record AreByPriority (candidates ordered : List Candidate) : Type 0 where
  pub same : IsPermutation candidates ordered
  pub ascending : IsNonDecreasingBy (λ candidate. candidate.priority) ordered
  pub stable : IsStableByKey (λ candidate. candidate.priority) nat_cmp candidates ordered
