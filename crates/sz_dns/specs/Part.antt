-- The parts of a name, and where its faults are told.
use Rattle.std.specs.Prelude.{◌≡◌, ℕ, List, ◌∷◌}
use Rattle.sz_dns.specs.Name.{BeginsWithLabel, BeginsWithPointer}
use Rattle.sz_dns.specs.declared.fault.DnsKind.{DnsKind}
use Rattle.sz_dns.specs.declared.fault.DnsKind.TheVariants.{Short, Pointer as too_far, Label as unknown}
use Rattle.sz_dns.specs.declared.name.Part.{Part}
use Rattle.sz_dns.specs.declared.name.Part.TheVariants.{Root, Label, Pointer}

-- the part at the front of the bytes
abbrev pub IsPart : List ℕ → Part → Type 0
IsPart bytes (Root rest) = bytes ≡ 0 ∷ rest.now
IsPart bytes (Label label rest) = BeginsWithLabel bytes label.now rest.now
IsPart bytes (Pointer to rest) = BeginsWithPointer bytes to rest.now

-- the fault of a name is told at its own place, but for one that ends too early: at that of the part that holds it
abbrev pub place_of_kind : DnsKind → ℕ → ℕ → ℕ
place_of_kind Short part name = part
place_of_kind too_far part name = name
place_of_kind unknown part name = name
