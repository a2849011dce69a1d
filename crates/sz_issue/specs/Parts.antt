-- Parts that stand in certificates and in revocation lists, each in its one form (RFC 5280 sections 4.1 and 5.1).
use Rattle.std.specs.Prelude.{◌≡◌, ℕ, ℤ, pos, int_lt, ◌≤ℤ◌, if◌then◌else◌, Bool, List, [], ◌∷◌, ◌++◌}
use Rattle.sz_calendar.specs.CivilTime.{CivilTime, IsTimeAt}
use Rattle.sz_der.specs.Der.{Der}
use Rattle.sz_der.specs.Integer.{IsIntegerOf}
use Rattle.sz_der.specs.Time.{generalized_text, utc_text}
use Rattle.sz_der.specs.Tags.{generalized_time_tag, integer_tag, object_identifier_tag, sequence_tag, set_tag, utc_time_tag, utf8_string_tag}
use Rattle.sz_x509.specs.Certificate.{IsHssAlgorithm, IsSignature}

-- id-at-commonName, 2.5.4.3 (RFC 5280 appendix A.1), as the octets of its DER content
abbrev pub common_name_oid : List ℕ
common_name_oid = 85 ∷ 4 ∷ 3 ∷ []

-- CertificateSerialNumber (4.1.2.2), in as few octets as will do
pub record IsWrittenSerial (serial : ℕ) (bytes : List ℕ) : Type 0 where
  pub content : List ℕ
  pub is_integer : IsIntegerOf (pos serial) content
  pub is_item : Der integer_tag content bytes

-- Name (4.1.2.4) of one attribute, the commonName (X.520 section 6.2.2), as a UTF8String. The octets of the text stand
-- there as they are, also where they are no UTF-8.
pub record IsCommonName (text bytes : List ℕ) : Type 0 where
  pub kind : List ℕ
  pub value : List ℕ
  pub attribute : List ℕ
  pub names : List ℕ
  pub is_kind : Der object_identifier_tag common_name_oid kind
  pub is_value : Der utf8_string_tag text value
  pub is_attribute : Der sequence_tag (kind ++ value) attribute
  pub is_set : Der set_tag attribute names
  pub is_sequence : Der sequence_tag names bytes

-- the second is at this time, which is of a year from 1950 to 9999, the last one that dates have here
pub record IsFrom1950 (seconds : ℤ) (time : CivilTime) : Type 0 where
  pub is_at : IsTimeAt seconds time
  pub from_1950 : pos 1950 ≤ℤ time.year

-- a second of the years 1950 to 9999, which can be written
abbrev pub IsWritable : ℤ → Type 0
IsWritable seconds = (time : CivilTime) × IsFrom1950 seconds time

-- through the year 2049 a time is a UTCTime, and from 2050 on a GeneralizedTime (4.1.2.5)
abbrev pub is_utc : CivilTime → Bool
is_utc time = int_lt time.year (pos 2050)

abbrev pub time_tag : CivilTime → ℕ
time_tag time = if is_utc time then utc_time_tag else generalized_time_tag

abbrev pub time_text : CivilTime → List ℕ
time_text time = if is_utc time then utc_text time else generalized_text time

-- Time (4.1.2.5)
pub record IsWrittenTime (seconds : ℤ) (bytes : List ℕ) : Type 0 where
  pub time : CivilTime
  pub is_from_1950 : IsFrom1950 seconds time
  pub is_item : Der (time_tag time) (time_text time) bytes

-- what is signed, the algorithm and the signature: a Certificate (4.1), or a CertificateList (5.1)
pub record IsSignedForm (tbs signature bytes : List ℕ) : Type 0 where
  pub algorithm : List ℕ
  pub bits : List ℕ
  pub is_algorithm : IsHssAlgorithm algorithm
  pub is_signature : IsSignature signature bits
  pub is_sequence : Der sequence_tag (tbs ++ (algorithm ++ bits)) bytes

-- ---- what a writer does

-- an item that holds one item of this content
pub record Holds (outer inner : ℕ) (content bytes : List ℕ) : Type 0 where
  pub held : List ℕ
  pub is_inner : Der inner content held
  pub is_outer : Der outer held bytes

-- the new bytes are the old ones with one part more
pub record Appends (IsPart : List ℕ → Type 0) (old new : List ℕ) : Type 0 where
  pub part : List ℕ
  pub is_part : IsPart part
  pub appended : new ≡ old ++ part
