-- A revocation list as a relation on whole strings: its parts, in the standard's order, by DER (RFC 5280 section 5.1).
use Rattle.std.specs.Prelude.{◌≡◌, ◌⊎◌, ℕ, ℤ, Bool, false, List, [], ◌∷◌, ◌++◌, Option, Some, None, bytes_eq}
use Rattle.std.specs.List.{list_any}
use Rattle.sz_der.specs.Der.{Der}
use Rattle.sz_der.specs.Spots.{AreEach}
use Rattle.sz_der.specs.Tags.{context_constructed, integer_tag, sequence_tag}
use Rattle.sz_x509.specs.Certificate.{IsHssAlgorithm, IsName, IsSerial, IsSignature, IsTime}
use Rattle.sz_x509.specs.Extensions.{Extension, IsExtension}

-- What is kept of a list. The issuer is a whole item, and the entries are those items one after another; times are
-- seconds since 1970.
pub record RevocationList : Type 0 where
  pub whole : List ℕ
  pub tbs : List ℕ
  pub issuer : List ℕ
  pub this_update : ℤ
  pub next_update : Option ℤ
  pub entries : List ℕ
  pub signature : List ℕ

-- Version (5.1.2.1), the INTEGER 1, which is version 2, or nothing
abbrev pub IsListVersion : List ℕ → Type 0
IsListVersion bytes = (bytes ≡ []) ⊎ Der integer_tag (1 ∷ []) bytes

-- nextUpdate (5.1.2.5), which need not be there
abbrev pub IsNextUpdate : Option ℤ → List ℕ → Type 0
IsNextUpdate None bytes = bytes ≡ []
IsNextUpdate (Some seconds) bytes = IsTime seconds bytes

-- an extension that is not critical; its value is not looked into (5.2, 5.3)
abbrev pub IsPassedOver : Extension → List ℕ → Type 0
IsPassedOver extension bytes = IsExtension extension bytes × (extension.critical ≡ false)

-- a SEQUENCE of such extensions
pub record ArePassedOver (bytes : List ℕ) : Type 0 where
  pub extensions : List Extension
  pub content : List ℕ
  pub are_extensions : AreEach IsPassedOver extensions content
  pub is_sequence : Der sequence_tag content bytes

-- extensions of an entry, which need not be there
abbrev pub HasEntryExtensions : List ℕ → Type 0
HasEntryExtensions bytes = (bytes ≡ []) ⊎ ArePassedOver bytes

-- an entry of revokedCertificates (5.1.2.6): the serial number, the date of revocation and extensions
pub record IsEntry (serial bytes : List ℕ) : Type 0 where
  pub number : List ℕ
  pub date : List ℕ
  pub extensions : List ℕ
  pub seconds : ℤ
  pub is_number : IsSerial serial number
  pub is_date : IsTime seconds date
  pub has_extensions : HasEntryExtensions extensions
  pub is_sequence : Der sequence_tag (number ++ (date ++ extensions)) bytes

-- the bytes are entries one after another, with these serial numbers
abbrev pub AreEntries : List (List ℕ) → List ℕ → Type 0
AreEntries serials bytes = AreEach IsEntry serials bytes

-- revokedCertificates (5.1.2.6), which need not be there and may be empty
abbrev pub IsRevoked : List ℕ → List ℕ → Type 0
IsRevoked entries bytes =
    ((bytes ≡ []) × (entries ≡ []))
    ⊎ ((serials : List (List ℕ)) × AreEntries serials entries × Der sequence_tag entries bytes)

-- crlExtensions (5.1.2.7), `[0]` and a SEQUENCE of extensions, which need not be there
abbrev pub HasListExtensions : List ℕ → Type 0
HasListExtensions bytes =
    (bytes ≡ []) ⊎ ((sequence : List ℕ) × ArePassedOver sequence × Der context_constructed sequence bytes)

-- TBSCertList (5.1.2)
pub record IsTbsList (fields : RevocationList) (bytes : List ℕ) : Type 0 where
  pub version : List ℕ
  pub algorithm : List ℕ
  pub this_update : List ℕ
  pub next_update : List ℕ
  pub revoked : List ℕ
  pub extensions : List ℕ
  pub is_version : IsListVersion version
  pub is_algorithm : IsHssAlgorithm algorithm
  pub is_issuer : IsName fields.issuer
  pub is_this_update : IsTime fields.this_update this_update
  pub is_next_update : IsNextUpdate fields.next_update next_update
  pub is_revoked : IsRevoked fields.entries revoked
  pub has_extensions : HasListExtensions extensions
  pub is_sequence : Der sequence_tag (version ++ (algorithm ++ (fields.issuer ++ (this_update ++ (next_update
      ++ (revoked ++ extensions)))))) bytes

-- CertificateList (5.1): the bytes are these parts and nothing else.
pub record CrlOf (bytes : List ℕ) (fields : RevocationList) : Type 0 where
  pub algorithm : List ℕ
  pub bits : List ℕ
  pub whole : fields.whole ≡ bytes
  pub is_tbs : IsTbsList fields fields.tbs
  pub is_algorithm : IsHssAlgorithm algorithm
  pub is_signature : IsSignature fields.signature bits
  pub is_sequence : Der sequence_tag (fields.tbs ++ (algorithm ++ bits)) bytes

-- one of the entries has the serial number
abbrev pub is_listed : List ℕ → List (List ℕ) → Bool
is_listed serial serials = list_any (λ other. bytes_eq other serial) serials
