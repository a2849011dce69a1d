-- What a fault with a kind and a place tells.
use Rattle.std.proofs.Common.{◌≡◌, ℕ, subst}
use Rattle.sz_dhcp.specs.Fault.{IsFault}
use Rattle.sz_dhcp.specs.declared.fault.DhcpFault.{DhcpFault}
use Rattle.sz_dhcp.specs.declared.fault.DhcpFault.TheVariants.{Bad}
use Rattle.sz_dhcp.specs.declared.fault.DhcpKind.{DhcpKind}

-- the fault of this kind at this place tells what holds of these
pub told : (Is : DhcpKind → ℕ → Type 0) (kind : DhcpKind) (place : ℕ) → Is kind place → IsFault Is (Bad kind place)
told Is kind place is other at e =
    let kinds : kind ≡ other = cc e in
    let places : place ≡ at = cc e in
    subst (λ (k : DhcpKind). Is k at) kinds (subst (λ (p : ℕ). Is kind p) places is)

-- and what it tells holds of what follows
pub told_weaker : (Is Other : DhcpKind → ℕ → Type 0) (fault : DhcpFault) → ((kind : DhcpKind) (place : ℕ) → Is kind place → Other kind place)
    → IsFault Is fault → IsFault Other fault
told_weaker Is Other fault weaker is kind place e = weaker kind place (is kind place e)
