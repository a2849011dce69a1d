-- What is written of a redirect that was read, reads as it.
use Rattle.std.proofs.Common.{◌≡◌, ℕ, ◌≤◌, ◌&&◌, Bool, true, false, if◌then◌else◌, List, [], ◌∷◌, map, Option, Some, None, option_and_then, unwrap_or, nat_le, Ok, refl, sym, ap, subst, ◌∙◌, arith}
use Rattle.std.proofs.lemmas.Bool.Decides.{nat_tests}
use Rattle.serde_json.specs.Data.{Data, Items, no_items, item, object, number, unsigned}
use Rattle.serde_json.specs.Find.{as_number, as_u64}
use Rattle.serde_json.specs.View.{items_of}
use Rattle.sz_base.specs.Host.{IsHost}
use Rattle.sz_base.specs.declared.target.Target.{Target}
use Rattle.sz_json.proofs.Objects.{optional-members_of, required-members_of}
use Rattle.sz_json.proofs.Readings.{form_from_optional, form_from_required}
use Rattle.sz_json.specs.Form.{if_between, list_of, object_of, port_of, text_of}
use Rattle.sz_json.specs.Object.{members_of}
use Rattle.sz_json.specs.declared.name.Name.TheVariants as name
use Rattle.sz_artifacts.proofs.Addresses.{host_of-host, IsAddress-host_of}
use Rattle.sz_artifacts.specs.Address.{address_of, host_of}
use Rattle.sz_artifacts.specs.Conveyed.{has_onboarding, IsConveyed}
use Rattle.sz_artifacts.specs.Redirect.{AreServers, default_port, if_some, IsRedirect, IsServer, some_list_of}
use Rattle.sz_artifacts.specs.WrittenInformation.{redirect_members, redirect_value, server_members, server_value, servers_members}
use Rattle.sz_artifacts.specs.declared.conveyed.Conveyed.TheVariants.{Redirect}

host_at : (text : Option (List ℕ)) (host : List ℕ) → option_and_then host_of text ≡ Some host → IsHost host
host_at None host h = cc
host_at (Some text) host h = (IsAddress-host_of text host h).0

record IsPortNumber (n : ℕ) : Type 0 where
  low : 1 ≤ n
  high : n ≤ 65535

in_range : (test other : Bool) (n p : ℕ) → nat_le 1 n ≡ test → nat_le n 65535 ≡ other → (if test && other then Some n else None) ≡ Some p → IsPortNumber p
in_range false other n p l h e = cc
in_range true false n p l h e = cc
in_range true true n p l h e = let same : n ≡ p = cc in subst IsPortNumber same (record { low = grind (arith, nat_tests); high = grind (arith, nat_tests) })

port_at : (number : Option ℕ) (p : ℕ) → option_and_then (if_between 1 65535) number ≡ Some p → IsPortNumber p
port_at None p h = cc
port_at (Some n) p h = in_range (nat_le 1 n) (nat_le n 65535) n p refl refl h

port_fits : (n : ℕ) → IsPortNumber n → if_between 1 65535 n ≡ Some n
port_fits n h =
    let low : nat_le 1 n ≡ true = grind (arith, nat_tests, h.low) in
    let high : nat_le n 65535 ≡ true = grind (arith, nat_tests, h.high) in
    rw (low, high)

named_port : (entry : Data) (named : Option ℕ) → ((p : ℕ) → named ≡ Some p → IsPortNumber p) → IsPortNumber (unwrap_or named default_port)
named_port entry None h = record { low = omega arith; high = omega arith }
named_port entry (Some p) h = h p refl

server_back : (entry : Data) (target : Target) → IsServer entry target → IsServer (server_value target) target
server_back entry target h =
    let read = form_from_required address_of name.Address entry target.host h.address in
    let host = host_at (text_of read.0) target.host read.1 in
    let named = named_port entry h.named (λ p e.
    let there = form_from_optional port_of name.Port entry p (h.port ∙ ap Ok e) in
    port_at (option_and_then as_u64 (as_number there.0)) p there.1) in
    let port = subst IsPortNumber (sym h.or_default) named in
    record {
      named = Some target.port;
      address = required-members_of address_of name.Address (server_members target) target.host (host_of-host target.host host);
      port = optional-members_of port_of name.Port (server_members target) (Some target.port) (λ n. number (unsigned n)) refl
          (λ n e. let same : target.port ≡ n = cc in subst (λ m. if_between 1 65535 m ≡ Some m) same (port_fits target.port port));
      or_default = refl;
    }

servers_back : (entries : Items) (targets : List Target) → AreServers entries targets → AreServers (items_of (map server_value targets)) targets
servers_back no_items [] h = tt
servers_back no_items (target ∷ targets) h = absurd h
servers_back (item entry entries) [] h = absurd h
servers_back (item entry entries) (target ∷ targets) h = (server_back entry target h.0, servers_back entries targets h.1)

some_at : (list : Option Items) → option_and_then if_some list ≡ Some no_items → ⊥
some_at None h = cc
some_at (Some no_items) h = cc
some_at (Some (item entry entries)) h = cc

not_empty : (list : Option Items) (servers : Items) (targets : List Target) → option_and_then if_some list ≡ Some servers → AreServers servers targets
    → if_some (items_of (map server_value targets)) ≡ Some (items_of (map server_value targets))
not_empty list no_items [] h all = absurd (some_at list h)
not_empty list (item entry entries) [] h all = absurd all
not_empty list servers (target ∷ targets) h all = refl

redirect_back : (value : Data) (targets : List Target) → IsRedirect value targets → IsRedirect (redirect_value targets) targets
redirect_back value targets h =
    let read = form_from_required some_list_of name.BootstrapServer h.information h.servers h.bootstrap_server in
    record {
      information = object (members_of (servers_members targets));
      servers = items_of (map server_value targets);
      top = required-members_of object_of name.RedirectInformation (redirect_members targets) _ refl;
      bootstrap_server = required-members_of some_list_of name.BootstrapServer (servers_members targets) (items_of (map server_value targets))
          (not_empty (list_of read.0) h.servers targets read.1 h.each);
      each = servers_back h.servers targets h.each;
    }

alone : (targets : List Target) → has_onboarding (redirect_value targets) ≡ Some false
alone targets = refl

pub redirect_reads_back : (value : Data) (targets : List Target) → IsRedirect value targets → IsConveyed (redirect_value targets) (Redirect targets)
redirect_reads_back value targets h = (alone targets, redirect_back value targets h)
