-- Services in records (RFC 2782), and the targets that they give.
use Rattle.std.specs.Prelude.{◌≡◌, ℕ, ◌+◌, ◌<◌, ◌==◌, ◌&&◌, ◌||◌, not, Bool, if◌then◌else◌, List, [], ◌∷◌, ◌++◌, length, map, codes}
use Rattle.std.specs.Bool.{MatchBool}
use Rattle.std.specs.Char.{is_ascii_alphanumeric, to_ascii_lowercase}
use Rattle.std.specs.List.{flat_map, list_all, list_any}
use Rattle.std.specs.Str.{bytes_eq}
use Rattle.sz_base.specs.Byte.{is_one_of}
use Rattle.sz_dns.specs.Name.{IsName, IsNameFault}
use Rattle.sz_dns.specs.Part.{place_of_kind}
use Rattle.sz_dns.specs.Record.{Record, two_bytes}
use Rattle.sz_dns.specs.declared.fault.DnsKind.{DnsKind}
use Rattle.sz_dns.specs.declared.fault.DnsKind.TheVariants.{Short}
use Rattle.sz_dns.specs.Limits.{internet_class, service_type}
use Rattle.sz_dns.specs.declared.service.Candidate.{Candidate}
use Rattle.sz_dns.specs.declared.service.Service.{Service}

-- a name as a text: its labels with dots between them
abbrev pub dotted : List (List ℕ) → List ℕ
dotted [] = []
dotted (label ∷ labels) = label ++ flat_map (λ more. 46 ∷ more) labels

-- a text with its letters in lower case
abbrev pub lowered : List ℕ → List ℕ
lowered text = map to_ascii_lowercase text

abbrev pub has_dot : List ℕ → Bool
has_dot label = list_any (λ byte. byte == 46) label

-- the name under which a domain offers its bootstrap servers (RFC 8572 section 4.2)
abbrev pub service_name : List ℕ → List ℕ
service_name domain = codes "_sztp._tcp." ++ domain

-- The labels are those of the name, but for the case of letters (RFC 4343): they have no dots, and with dots between
-- them they are its text.
abbrev pub is_owner : List ℕ → List (List ℕ) → Bool
is_owner name labels = not (list_any has_dot labels) && bytes_eq (lowered (dotted labels)) (lowered name)

-- a record counts: it has type 33 and class 1, and is that of a name
abbrev pub counts : List ℕ → Record → Bool
counts name item = item.kind == service_type && (item.class == internet_class && is_owner name item.owner)

-- The data of a record are this service: priority, weight and port in two bytes each, and a target's name. Bytes after
-- it are passed over.
pub record IsService (message contents : List ℕ) (service : Service) : Type 0 where
  pub weight : ℕ
  pub name : List ℕ
  pub rest : List ℕ
  pub spelled : contents ≡ two_bytes service.priority ++ two_bytes weight ++ two_bytes service.port ++ name
  pub target : IsName message name service.target rest

-- a letter, a digit, or one of two marks
abbrev pub is_host_byte : ℕ → Bool
is_host_byte byte = is_ascii_alphanumeric byte || is_one_of (codes "-_") byte

-- the name is that of a host: its text is not empty, as that of the root is, and its labels have such bytes alone
abbrev pub is_host : List (List ℕ) → Bool
is_host labels = not (length (dotted labels) == 0) && list_all (list_all is_host_byte) labels

-- the candidate that a service gives; nothing where its target is no host or its port is 0
abbrev pub candidates_of : Service → List Candidate
candidates_of service =
    if not (service.port == 0) && is_host service.target
    then record {
      priority = service.priority;
      target = record { host = dotted service.target; port = service.port };
    } ∷ []
    else []

-- a record that counts gives the candidate of its service, and any other gives nothing
pub record GivesService (message : List ℕ) (item : Record) (candidates : List Candidate) : Type 0 where
  pub service : Service
  pub is : IsService message item.contents service
  pub gives : candidates ≡ candidates_of service

abbrev pub GivesCandidates : List ℕ → List ℕ → Record → List Candidate → Type 0
GivesCandidates message name item candidates =
    MatchBool (counts name item) (GivesService message item candidates) (candidates ≡ [])

-- ---- the first fault

-- Why the data of a record that counts are no service. The record begins at one place of the message, and its data at
-- another.
pub data IsServiceFault (message contents : List ℕ) (start inside : ℕ) : DnsKind → ℕ → Type 0 where
  too_short : length contents < 6 → IsServiceFault message contents start inside Short start
  in_target : {kind : DnsKind} (fields name : List ℕ) → contents ≡ fields ++ name → length fields ≡ 6
      → IsNameFault message name kind
      → IsServiceFault message contents start inside kind (place_of_kind kind start (inside + 6))
