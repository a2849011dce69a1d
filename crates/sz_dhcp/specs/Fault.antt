-- What a reader that refuses a message answers.
use Rattle.std.specs.Prelude.{◌≡◌, ℕ}
use Rattle.sz_dhcp.specs.declared.fault.DhcpFault.{DhcpFault}
use Rattle.sz_dhcp.specs.declared.fault.DhcpFault.TheVariants.{Bad}
use Rattle.sz_dhcp.specs.declared.fault.DhcpKind.{DhcpKind}

-- the answer tells a kind and a place only where they are these; else memory ran out
abbrev pub IsFault : (DhcpKind → ℕ → Type 0) → DhcpFault → Type 0
IsFault Is fault = (kind : DhcpKind) (place : ℕ) → fault ≡ Bad kind place → Is kind place
