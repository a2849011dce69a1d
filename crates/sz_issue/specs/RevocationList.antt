-- What is written of a revocation list: its parts in the standard's order, each in its one form (RFC 5280 section 5.1).
use Rattle.std.specs.Prelude.{◌≡◌, ◌↔◌, ℕ, ℤ, pos, List, [], ◌∷◌, ◌++◌, Option, Some, None, IsTrue}
use Rattle.std.specs.List.{Any}
use Rattle.sz_der.specs.Der.{Der}
use Rattle.sz_der.specs.Integer.{IsIntegerOf}
use Rattle.sz_der.specs.Spots.{AreEach}
use Rattle.sz_der.specs.Tags.{integer_tag, sequence_tag}
use Rattle.sz_x509.specs.Certificate.{IsHssAlgorithm}
use Rattle.sz_x509.specs.CrlView.{seconds_of}
use Rattle.sz_x509.specs.RevocationList.{AreEntries, is_listed, RevocationList}
use Rattle.sz_issue.specs.Parts.{IsCommonName, IsWrittenSerial, IsWrittenTime}
use Rattle.sz_issue.specs.declared.list.CrlSpec.{CrlSpec}

-- What a list is to say. The issuer's name is the octets of its text; times are seconds since 1970.
pub record CrlValues : Type 0 where
  pub issuer : List ℕ
  pub this_update : ℤ
  pub next_update : Option ℤ
  pub serials : List ℕ

-- Version (5.1.2.1), the INTEGER 1, which is version 2
abbrev pub IsVersion2 : List ℕ → Type 0
IsVersion2 bytes = Der integer_tag (1 ∷ []) bytes

-- nextUpdate (5.1.2.5), or nothing where none is given
abbrev pub IsWrittenNextUpdate : Option ℤ → List ℕ → Type 0
IsWrittenNextUpdate None bytes = bytes ≡ []
IsWrittenNextUpdate (Some seconds) bytes = IsWrittenTime seconds bytes

-- an entry of revokedCertificates (5.1.2.6), without extensions: the serial number and the date of revocation
pub record IsWrittenEntry (date : ℤ) (serial : ℕ) (bytes : List ℕ) : Type 0 where
  pub number : List ℕ
  pub time : List ℕ
  pub is_number : IsWrittenSerial serial number
  pub is_date : IsWrittenTime date time
  pub is_sequence : Der sequence_tag (number ++ time) bytes

-- an entry of each serial number, in their order, all of one date
abbrev pub AreWrittenEntries : ℤ → List ℕ → List ℕ → Type 0
AreWrittenEntries date serials bytes = AreEach (IsWrittenEntry date) serials bytes

-- revokedCertificates (5.1.2.6) of these entries, or nothing where no serial number is given
abbrev pub IsWrittenRevoked : List ℕ → List ℕ → List ℕ → Type 0
IsWrittenRevoked [] entries bytes = bytes ≡ []
IsWrittenRevoked (serial ∷ serials) entries bytes = Der sequence_tag entries bytes

-- TBSCertList (5.1.2), without extensions. The entries are of thisUpdate.
pub record IsWrittenTbsList (values : CrlValues) (bytes : List ℕ) : Type 0 where
  pub version : List ℕ
  pub algorithm : List ℕ
  pub issuer : List ℕ
  pub this_update : List ℕ
  pub next_update : List ℕ
  pub entries : List ℕ
  pub revoked : List ℕ
  pub is_version : IsVersion2 version
  pub is_algorithm : IsHssAlgorithm algorithm
  pub is_issuer : IsCommonName values.issuer issuer
  pub is_this_update : IsWrittenTime values.this_update this_update
  pub is_next_update : IsWrittenNextUpdate values.next_update next_update
  pub are_entries : AreWrittenEntries values.this_update values.serials entries
  pub is_revoked : IsWrittenRevoked values.serials entries revoked
  pub is_sequence : Der sequence_tag
      (version ++ (algorithm ++ (issuer ++ (this_update ++ (next_update ++ revoked))))) bytes

-- ---- what a list that was written says

-- The bytes are entries, and octets are listed exactly where they are the INTEGER of one of the serial numbers.
pub record Lists (serials bytes : List ℕ) : Type 0 where
  pub numbers : List (List ℕ)
  pub are_entries : AreEntries numbers bytes
  pub exactly : (octets : List ℕ) →
      IsTrue (is_listed octets numbers) ↔ Any (λ serial. IsIntegerOf (pos serial) octets) serials

-- the fields of TBSCertList are these values
pub record SaysList (values : CrlValues) (fields : RevocationList) : Type 0 where
  pub issuer : IsCommonName values.issuer fields.issuer
  pub this_update : fields.this_update ≡ values.this_update
  pub next_update : fields.next_update ≡ values.next_update
  pub entries : AreWrittenEntries values.this_update values.serials fields.entries
  pub lists : Lists values.serials fields.entries

-- the fields of the whole list, by those of its TBSCertList
unfoldable pub signed_list : RevocationList → List ℕ → List ℕ → List ℕ → RevocationList
signed_list fields tbs signature whole = record fields { whole = whole; tbs = tbs; signature = signature }

-- ---- what contracts see

-- what a `CrlSpec` says
abbrev pub crl_values : CrlSpec → CrlValues
crl_values spec = record {
  issuer = spec.issuer;
  this_update = spec.this_update.0;
  next_update = seconds_of spec.next_update;
  serials = spec.serials;
}
