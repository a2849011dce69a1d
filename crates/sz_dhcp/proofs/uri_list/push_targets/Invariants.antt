use Rattle.std.proofs.Common.{◌≡◌, List, ◌++◌, ℕ, length}
use Rattle.sz_base.specs.declared.target.Target.{Target}
use Rattle.sz_dhcp.specs.Spelled.{Joined}
use Rattle.sz_dhcp.specs.UriList.{GivesTarget, IsEntry}
use Rattle.sz_dhcp.proofs.Joined.{IsReadUpTo}
use Rattle.sz_dhcp.proofs.uri_list.push_targets.Given as goal

-- these URIs were read, and these targets put last for them
pub record Reads (list left : List ℕ) (old new : List Target) : Type 0 where
  pub uris : List (List ℕ)
  pub more : List Target
  pub read : IsReadUpTo IsEntry list uris left
  pub give : Joined GivesTarget uris more
  pub put : new ≡ old ++ more

abbrev pub invariant-entries : goal.invariant-entries
invariant-entries l = Reads l.list l.left l.fn.targets l.targets

abbrev pub decreases-entries : goal.decreases-entries
decreases-entries l = length l.left
