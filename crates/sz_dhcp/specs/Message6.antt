-- What a DHCPv6 message says of bootstrap servers, and why it is refused (RFC 8415 sections 8 and 21.1, RFC 8572
-- section 8.2).
use Rattle.std.specs.Prelude.{◌≡◌, ℕ, ◌+◌, ◌<◌, ◌≤◌, ◌==◌, List, [], ◌++◌, length, drop}
use Rattle.std.specs.Bool.{MatchBool}
use Rattle.sz_base.specs.declared.target.Target.{Target}
use Rattle.sz_dhcp.specs.DhcpOption.{DhcpOption}
use Rattle.sz_dhcp.specs.Spelled.{EndsInside, Joined, two_bytes}
use Rattle.sz_dhcp.specs.UriList.{ListBreaksAt, ListsTargets}
use Rattle.sz_dhcp.specs.Codes6.{header_bytes, redirect_code6}
use Rattle.sz_dhcp.specs.declared.fault.DhcpKind.{DhcpKind}
use Rattle.sz_dhcp.specs.declared.fault.DhcpKind.TheVariants.{Short, Uri}

-- an option: its code and the length of its value in two bytes each, and the value (RFC 8415 section 21.1)
abbrev pub IsOption : DhcpOption → List ℕ → Type 0
IsOption option bytes = bytes ≡ two_bytes option.code ++ two_bytes (length option.value) ++ option.value

-- the options follow the message's type and its transaction (RFC 8415 section 8)
abbrev pub options_field : List ℕ → List ℕ
options_field message = drop header_bytes message

-- an option 136 is a list of bootstrap servers of its own, and any other gives nothing
abbrev pub GivesTargets : DhcpOption → List Target → Type 0
GivesTargets option targets =
    MatchBool (option.code == redirect_code6) (ListsTargets option.value targets) (targets ≡ [])

-- the options at the front of a message, which give these targets, and what follows them
pub record BeginsWithOptions (message : List ℕ) (options : List DhcpOption) (targets : List Target)
    (front rest : List ℕ) : Type 0 where
  pub long : header_bytes ≤ length message
  pub joined : options_field message ≡ front ++ rest
  pub spelled : Joined IsOption options front
  pub give : Joined GivesTargets options targets

-- the message gives these targets
pub record Gives6 (message : List ℕ) (targets : List Target) : Type 0 where
  pub options : List DhcpOption
  pub front : List ℕ
  pub has : BeginsWithOptions message options targets front []

-- ---- the first fault

-- an option 136, after which anything may follow, whose list ends inside an entry
pub record HasBadList (bytes : List ℕ) (place : ℕ) : Type 0 where
  pub option : DhcpOption
  pub own : List ℕ
  pub rest : List ℕ
  pub joined : bytes ≡ own ++ rest
  pub spelled : IsOption option own
  pub code : option.code ≡ redirect_code6
  pub breaks : ListBreaksAt option.value place

-- The rules. After the options whose lists are read there stands one whose list isn't, or the message ends inside an
-- option. The place is one of the message, or for `Uri` of the option's value.
pub data IsFault6 (message : List ℕ) : DhcpKind → ℕ → Type 0 where
  too_short : length message < header_bytes → IsFault6 message Short 0
  in_list : {place : ℕ} {options : List DhcpOption} {targets : List Target} {front rest : List ℕ}
      → BeginsWithOptions message options targets front rest → HasBadList rest place → IsFault6 message Uri place
  in_option : {options : List DhcpOption} {targets : List Target} {front rest : List ℕ}
      → BeginsWithOptions message options targets front rest → EndsInside IsOption rest
      → IsFault6 message Short (header_bytes + length front)
