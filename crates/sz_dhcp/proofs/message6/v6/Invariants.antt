use Rattle.std.proofs.Common.{List, ℕ, length}
use Rattle.sz_dhcp.specs.DhcpOption.{DhcpOption}
use Rattle.sz_dhcp.specs.Message6.{BeginsWithOptions}
use Rattle.sz_dhcp.proofs.message6.v6.Given as goal

-- the options that were read gave these targets
abbrev pub invariant-options : goal.invariant-options
invariant-options l = (options : List DhcpOption) × (front : List ℕ) × BeginsWithOptions l.message options l.targets front l.left

abbrev pub decreases-options : goal.decreases-options
decreases-options l = length l.left
