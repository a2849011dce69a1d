-- Questions and resource records of a message (RFC 1035 sections 4.1.2 and 4.1.3).
use Rattle.std.specs.Prelude.{◌≡◌, ◌⊎◌, ℕ, ◌+◌, ◌*◌, ◌/◌, ◌%◌, ◌<◌, ◌≤◌, List, [], ◌∷◌, ◌++◌, length, slice_index}
use Rattle.sz_dns.specs.Name.{IsName, IsNameFault}
use Rattle.sz_dns.specs.declared.fault.DnsKind.{DnsKind}
use Rattle.sz_dns.specs.declared.fault.DnsKind.TheVariants.{Short}
use Rattle.sz_dns.specs.declared.record.Record.{Record as Found}

-- a number in two bytes, the most significant first (section 2.3.2)
abbrev pub two_bytes : ℕ → List ℕ
two_bytes number = number / 256 ∷ number % 256 ∷ []

-- the number in two bytes at a place
abbrev pub number_at : List ℕ → ℕ → ℕ
number_at bytes place = slice_index bytes place * 256 + slice_index bytes (place + 1)

-- a question at the front of the bytes: a name, and a type and a class in two bytes each
pub record IsQuestion (message bytes rest : List ℕ) : Type 0 where
  pub labels : List (List ℕ)
  pub fields : List ℕ
  pub name : IsName message bytes labels (fields ++ rest)
  pub size : length fields ≡ 4

-- what a record says
pub record Record : Type 0 where
  pub owner : List (List ℕ)
  pub kind : ℕ
  pub class : ℕ
  pub contents : List ℕ

-- the fields of a record after its owner: type, class, time to live in four bytes, the length of its data, and the data
pub record AreFields (kind class : ℕ) (contents bytes : List ℕ) : Type 0 where
  pub time_to_live : List ℕ
  pub size : length time_to_live ≡ 4
  pub spelled : bytes ≡ two_bytes kind ++ two_bytes class ++ time_to_live ++ two_bytes (length contents) ++ contents

-- a record at the front of the bytes: its owner's name and its fields
pub record IsRecord (message bytes : List ℕ) (item : Record) (rest : List ℕ) : Type 0 where
  pub fields : List ℕ
  pub owner : IsName message bytes item.owner (fields ++ rest)
  pub are : AreFields item.kind item.class item.contents fields

-- ---- the first fault

-- why no question stands at the front of the bytes
pub data IsQuestionFault (message bytes : List ℕ) : DnsKind → Type 0 where
  in_name : {kind : DnsKind} → IsNameFault message bytes kind → IsQuestionFault message bytes kind
  in_fields : {labels : List (List ℕ)} {after : List ℕ} → IsName message bytes labels after → length after < 4
      → IsQuestionFault message bytes Short

-- The bytes end inside the fields of a record: they are fewer than the ten before the data, or than these and the data,
-- whose length stands at 8.
abbrev pub EndsInsideFields : List ℕ → Type 0
EndsInsideFields bytes =
    (length bytes < 10) ⊎ ((10 ≤ length bytes) × (length bytes < 10 + number_at bytes 8))

-- why no record stands at the front of the bytes
pub data IsRecordFault (message bytes : List ℕ) : DnsKind → Type 0 where
  in_owner : {kind : DnsKind} → IsNameFault message bytes kind → IsRecordFault message bytes kind
  after_owner : {labels : List (List ℕ)} {after : List ℕ} → IsName message bytes labels after → EndsInsideFields after
      → IsRecordFault message bytes Short

-- a record as it was read
abbrev pub record_of : Found → Record
record_of found =
    record { owner = found.owner; kind = found.kind; class = found.class; contents = found.contents.now }
