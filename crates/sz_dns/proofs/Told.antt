-- What a fault with a kind and a place tells.
use Rattle.std.proofs.Common.{◌≡◌, ◌∙◌, ℕ, subst, sym}
use Rattle.sz_dns.specs.Fault.{Tells}
use Rattle.sz_dns.specs.Part.{place_of_kind}
use Rattle.sz_dns.specs.declared.fault.DnsFault.{DnsFault}
use Rattle.sz_dns.specs.declared.fault.DnsFault.TheVariants.{Bad}
use Rattle.sz_dns.specs.declared.fault.DnsKind.{DnsKind}
use Rattle.sz_dns.specs.declared.fault.DnsKind.TheVariants.{Short, Pointer, Label}

-- the fault of this kind at this place tells what holds of these
pub told : (Is : DnsKind → ℕ → Type 0) (fault : DnsFault) (kind : DnsKind) (place : ℕ) → fault ≡ Bad kind place → Is kind place
    → Tells Is fault
told Is fault kind place same is other at e =
    let bad : Bad kind place ≡ Bad other at = sym same ∙ e in
    let kinds : kind ≡ other = cc bad in
    let places : place ≡ at = cc bad in
    subst (λ (k : DnsKind). Is k at) kinds (subst (λ (p : ℕ). Is kind p) places is)

-- and what it tells holds of what follows
pub told_weaker : (Is Other : DnsKind → ℕ → Type 0) (fault : DnsFault) → ((kind : DnsKind) (place : ℕ) → Is kind place → Other kind place)
    → Tells Is fault → Tells Other fault
told_weaker Is Other fault weaker is kind place e = weaker kind place (is kind place e)

-- where a part begins with its name, a fault has one place
pub one_place : (kind : DnsKind) (part name place : ℕ) → part ≡ place → name ≡ place → place_of_kind kind part name ≡ place
one_place Short part name place first second = first
one_place Pointer part name place first second = second
one_place Label part name place first second = second
