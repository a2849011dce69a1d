-- The faults of a DHCPv6 message, where its options were read.
use Rattle.std.proofs.Common.{◌≡◌, ℕ, ◌+◌, List, [], ◌∷◌, ◌++◌, length, sym, ap, ◌∙◌, append_assoc, arith, length-append, length-drop}
use Rattle.sz_base.specs.declared.target.Target.{Target}
use Rattle.sz_dhcp.specs.DhcpOption.{DhcpOption}
use Rattle.sz_dhcp.specs.Fault.{IsFault}
use Rattle.sz_dhcp.specs.Message6.{BeginsWithOptions, GivesTargets, in_list, in_option, IsFault6, IsOption}
use Rattle.sz_dhcp.specs.Spelled.{BeginsWith, EndsInside}
use Rattle.sz_dhcp.specs.UriList.{ListBreaksAt}
use Rattle.sz_dhcp.specs.declared.fault.DhcpFault.{DhcpFault}
use Rattle.sz_dhcp.specs.declared.fault.DhcpKind.TheVariants.{Short, Uri}
use Rattle.sz_dhcp.specs.Codes6.{header_bytes, redirect_code6}
use Rattle.sz_dhcp.proofs.Joined.{Joined-push}

-- an option that ends too early
pub fault_in_option : (message front left : List ℕ) (fault : DhcpFault) (options : List DhcpOption) (targets : List Target)
    → BeginsWithOptions message options targets front left
    → IsFault (λ kind place. (kind ≡ Short) × EndsInside IsOption left × (place + length left ≡ length message)) fault
    → IsFault (IsFault6 message) fault
fault_in_option message front left fault options targets begins is kind place e =
    let found = is kind place e in
    let kinds = found.0 in
    let at = found.2 in
    let long = begins.long in
    let places : place ≡ header_bytes + length front = omega (arith, ap length begins.joined, length-append front left, length-drop header_bytes message) in
    rw (kinds, places) (in_option begins found.1)

-- a list at fault
pub fault_in_its_list : (message front left rest : List ℕ) (fault : DhcpFault) (options : List DhcpOption) (targets : List Target) (item : DhcpOption)
    → BeginsWithOptions message options targets front left → BeginsWith IsOption left item rest
    → IsFault (λ kind place. (kind ≡ Uri) × (item.code ≡ redirect_code6) × ListBreaksAt item.value place) fault
    → IsFault (IsFault6 message) fault
fault_in_its_list message front left rest fault options targets item begins first is kind place e =
    let found = is kind place e in
    let kinds = found.0 in
    rw kinds
    (in_list begins (record {
      option = item;
      own = first.own;
      rest = rest;
      joined = first.joined;
      spelled = first.spelled;
      code = found.1;
      breaks = found.2;
    }))

-- one option more
pub one_more : (message front left rest : List ℕ) (options : List DhcpOption) (targets own : List Target) (item : DhcpOption)
    → BeginsWithOptions message options targets front left → (first : BeginsWith IsOption left item rest) → GivesTargets item own
    → BeginsWithOptions message (options ++ item ∷ []) (targets ++ own) (front ++ first.own) rest
one_more message front left rest options targets own item begins first gives = record {
  long = begins.long;
  joined = begins.joined ∙ ap (λ (xs : List ℕ). front ++ xs) first.joined ∙ sym (append_assoc front first.own rest);
  spelled = Joined-push IsOption options item front first.own begins.spelled first.spelled;
  give = Joined-push GivesTargets options item targets own begins.give gives;
}
