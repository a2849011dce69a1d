-- What a reader that refuses a message answers.
use Rattle.std.specs.Prelude.{◌≡◌, ℕ}
use Rattle.sz_dns.specs.declared.fault.DnsFault.{DnsFault}
use Rattle.sz_dns.specs.declared.fault.DnsFault.TheVariants.{Bad}
use Rattle.sz_dns.specs.declared.fault.DnsKind.{DnsKind}

-- the answer tells a kind and a place only where they are these; else memory ran out
abbrev pub Tells : (DnsKind → ℕ → Type 0) → DnsFault → Type 0
Tells Is fault = (kind : DnsKind) (place : ℕ) → fault ≡ Bad kind place → Is kind place
