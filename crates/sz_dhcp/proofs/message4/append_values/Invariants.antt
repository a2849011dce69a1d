use Rattle.std.proofs.Common.{◌≡◌, List, ◌++◌, ℕ, length}
use Rattle.sz_dhcp.specs.DhcpOption.{DhcpOption}
use Rattle.sz_dhcp.specs.Message4.{IsOption, values_of}
use Rattle.sz_dhcp.proofs.Joined.{IsReadUpTo}
use Rattle.sz_dhcp.proofs.message4.append_values.Given as goal

-- these options were read, and their values put last
pub record Reads (bytes left old new : List ℕ) (code : ℕ) : Type 0 where
  pub options : List DhcpOption
  pub read : IsReadUpTo IsOption bytes options left
  pub put : new ≡ old ++ values_of code options

abbrev pub invariant-options : goal.invariant-options
invariant-options l = Reads l.fn.field.bytes.now l.left l.fn.values l.values l.code

abbrev pub decreases-options : goal.decreases-options
decreases-options l = length l.left
