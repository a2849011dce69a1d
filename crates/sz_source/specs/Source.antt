-- Sources as texts: a word that says what it is, a colon, and what it names.
use Rattle.std.specs.Prelude.{◌≡◌, ◌≢◌, ◌≤◌, ℕ, List, [], ◌∷◌, ◌++◌, length, codes}
use Rattle.std.specs.List.{All}
use Rattle.sz_base.specs.Host.{IsHost}
use Rattle.sz_base.specs.Target.{IsTarget, target_text}
use Rattle.sz_source.specs.declared.item.Item.{Item}
use Rattle.sz_source.specs.declared.item.Item.TheVariants.{Folder, File, At}
use Rattle.sz_source.specs.declared.source.Source.{Source}
use Rattle.sz_source.specs.declared.source.Source.TheVariants.{Usb, Dhcp4, Dhcp6, Dns, Server}

-- how many sources a device may be given
abbrev pub most_sources : ℕ
most_sources = 16

-- any bytes, at least one
abbrev pub IsPath : List ℕ → Type 0
IsPath path = 1 ≤ length path

-- the text, split at its last colon
pub record IsSplit (text before behind : List ℕ) : Type 0 where
  pub split : text ≡ before ++ 58 ∷ behind
  pub last : All (λ byte. byte ≢ 58) behind

-- any bytes, at least one, of which the last is no point: names are looked up under the domain as it stands
pub record IsDomain (domain : List ℕ) : Type 0 where
  pub some : 1 ≤ length domain
  pub no_point : (front : List ℕ) → domain ≢ front ++ 46 ∷ []

-- a path, and behind the last colon a domain
pub record IsAnswerFor (text path domain : List ℕ) : Type 0 where
  pub split : IsSplit text path domain
  pub some_path : IsPath path
  pub under : IsDomain domain

-- the text is a path as it stands
pub record IsPathOf (text path : List ℕ) : Type 0 where
  pub same : path ≡ text
  pub some : IsPath path

-- the text is that of a source
abbrev pub IsSource : Source → List ℕ → Type 0
IsSource (Usb path) text = (text ≡ codes "usb:" ++ path) × IsPath path
IsSource (Dhcp4 path) text = (text ≡ codes "dhcp4:" ++ path) × IsPath path
IsSource (Dhcp6 path) text = (text ≡ codes "dhcp6:" ++ path) × IsPath path
IsSource (Dns path domain) text =
    (answer : List ℕ) × (text ≡ codes "dns:" ++ answer) × IsAnswerFor answer path domain
IsSource (Server target) text = (server : List ℕ) × (text ≡ codes "server:" ++ server) × IsTarget target server

-- the one text of a source
abbrev pub source_text : Source → List ℕ
source_text (Usb path) = codes "usb:" ++ path
source_text (Dhcp4 path) = codes "dhcp4:" ++ path
source_text (Dhcp6 path) = codes "dhcp6:" ++ path
source_text (Dns path domain) = codes "dns:" ++ path ++ 58 ∷ domain
source_text (Server target) = codes "server:" ++ target_text target

-- the source has a text
abbrev pub HasText : Source → Type 0
HasText (Usb path) = IsPath path
HasText (Dhcp4 path) = IsPath path
HasText (Dhcp6 path) = IsPath path
HasText (Dns path domain) = IsPath path × IsDomain domain × All (λ byte. byte ≢ 58) domain
HasText (Server target) = IsHost target.host × (1 ≤ target.port) × (target.port ≤ 65535)

-- what is visited first of a source
abbrev pub first_item : Source → Item
first_item (Usb path) = Folder path
first_item (Dhcp4 path) = File path
first_item (Dhcp6 path) = File path
first_item (Dns path domain) = File path
first_item (Server target) = At target
