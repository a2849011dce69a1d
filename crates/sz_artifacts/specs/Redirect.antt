-- Redirect information (RFC 8572 sections 2.1 and 6.3): the bootstrap servers that the device is sent to.
use Rattle.std.specs.Prelude.{◌≡◌, ℕ, List, [], ◌∷◌, Option, Some, None, option_and_then, unwrap_or, Ok, ⊤}
use Rattle.serde_json.specs.Data.{Data, Items, no_items, item}
use Rattle.sz_base.specs.declared.target.Target.{Target}
use Rattle.sz_json.specs.Fault.{fault_of, first_inside, first_of, or_later}
use Rattle.sz_json.specs.Form.{list_of, object_of, port_of}
use Rattle.sz_json.specs.Member.{optional, required}
use Rattle.sz_json.specs.declared.name.Name.{Name}
use Rattle.sz_json.specs.declared.name.Name.TheVariants as name
use Rattle.sz_artifacts.specs.Address.{address_of}

-- the port of a bootstrap server that names none
abbrev pub default_port : ℕ
default_port = 443

-- an entry of the list, and the target that it names; its trust anchor is passed over
pub record IsServer (entry : Data) (target : Target) : Type 0 where
  pub named : Option ℕ
  pub address : required address_of name.Address entry ≡ Ok target.host
  pub port : optional port_of name.Port entry ≡ Ok named
  pub or_default : target.port ≡ unwrap_or named default_port

-- the entries, each with its target, in order
abbrev pub AreServers : Items → List Target → Type 0
AreServers no_items [] = ⊤
AreServers no_items (target ∷ targets) = ⊥
AreServers (item entry entries) [] = ⊥
AreServers (item entry entries) (target ∷ targets) = IsServer entry target × AreServers entries targets

-- a list with an entry
abbrev pub if_some : Items → Option Items
if_some no_items = None
if_some (item entry entries) = Some (item entry entries)

abbrev pub some_list_of : Data → Option Items
some_list_of value = option_and_then if_some (list_of value)

-- the value is that of redirect information
pub record IsRedirect (value : Data) (targets : List Target) : Type 0 where
  pub information : Data
  pub servers : Items
  pub top : required object_of name.RedirectInformation value ≡ Ok information
  pub bootstrap_server : required some_list_of name.BootstrapServer information ≡ Ok servers
  pub each : AreServers servers targets

-- ---- the first member at fault

abbrev pub server_fault : Data → Option Name
server_fault entry = first_of (
    fault_of (required address_of name.Address entry)
    ∷ fault_of (optional port_of name.Port entry)
    ∷ [])

abbrev pub servers_fault : Items → Option Name
servers_fault no_items = None
servers_fault (item entry entries) = or_later (server_fault entry) (servers_fault entries)

abbrev pub redirect_fault : Data → Option Name
redirect_fault value =
    first_inside (required object_of name.RedirectInformation value) (λ information.
    first_inside (required some_list_of name.BootstrapServer information) servers_fault)
