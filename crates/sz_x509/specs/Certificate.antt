-- A certificate as a relation on whole strings: its parts, in the standard's order, by DER (RFC 5280 section 4.1).
use Rattle.std.specs.Prelude.{◌≡◌, ◌⊎◌, ℕ, ℤ, List, [], ◌∷◌, ◌++◌, length}
use Rattle.sz_calendar.specs.CivilTime.{CivilTime, IsTimeAt}
use Rattle.sz_der.specs.Der.{Der}
use Rattle.sz_der.specs.Integer.{IsInteger}
use Rattle.sz_der.specs.Time.{NamesTime}
use Rattle.sz_der.specs.Tags.{bit_string_tag, context_constructed, integer_tag, object_identifier_tag, sequence_tag}
use Rattle.sz_x509.specs.Extensions.{HasExtensions, Restrictions}
use Rattle.sz_x509.specs.Identifiers.{hss_lms_oid}
use Rattle.sz_x509.specs.Tags.{issuer_unique_id_tag, subject_unique_id_tag}

-- What is kept of a certificate. The issuer and the subject are whole items; the serial number is the octets of its
-- INTEGER; times are seconds since 1970.
pub record Certificate : Type 0 where
  pub whole : List ℕ
  pub tbs : List ℕ
  pub serial : List ℕ
  pub issuer : List ℕ
  pub not_before : ℤ
  pub not_after : ℤ
  pub subject : List ℕ
  pub key : List ℕ
  pub restrictions : Restrictions
  pub signature : List ℕ

-- ---- parts that stand in revocation lists too

-- AlgorithmIdentifier (4.1.1.2) of HSS/LMS signatures, which has no parameters (RFC 8708 section 3)
pub record IsHssAlgorithm (bytes : List ℕ) : Type 0 where
  pub identifier : List ℕ
  pub is_identifier : Der object_identifier_tag hss_lms_oid identifier
  pub is_sequence : Der sequence_tag identifier bytes

-- Name (4.1.2.4), which is not looked into
abbrev pub IsName : List ℕ → Type 0
IsName bytes = (names : List ℕ) × Der sequence_tag names bytes

-- Time (4.1.2.5), a UTCTime or a GeneralizedTime, in seconds since 1970
pub record IsTime (seconds : ℤ) (bytes : List ℕ) : Type 0 where
  pub tag : ℕ
  pub text : List ℕ
  pub time : CivilTime
  pub is_item : Der tag text bytes
  pub names_time : NamesTime tag text time
  pub is_at : IsTimeAt seconds time

-- signatureValue (4.1.1.3), a BIT STRING of whole octets
abbrev pub IsSignature : List ℕ → List ℕ → Type 0
IsSignature signature bytes = Der bit_string_tag (0 ∷ signature) bytes

-- ---- parts of a certificate alone

-- Version (4.1.2.1), `[0]` and the INTEGER 2, which is version 3
pub record IsVersion3 (bytes : List ℕ) : Type 0 where
  pub integer : List ℕ
  pub is_integer : Der integer_tag (2 ∷ []) integer
  pub is_explicit : Der context_constructed integer bytes

-- CertificateSerialNumber (4.1.2.2), of any value
pub record IsSerial (serial bytes : List ℕ) : Type 0 where
  pub minimal : IsInteger serial
  pub is_item : Der integer_tag serial bytes

-- Validity (4.1.2.5)
pub record IsValidity (not_before not_after : ℤ) (bytes : List ℕ) : Type 0 where
  pub first : List ℕ
  pub last : List ℕ
  pub is_first : IsTime not_before first
  pub is_last : IsTime not_after last
  pub is_sequence : Der sequence_tag (first ++ last) bytes

-- the length of an HSS public key (RFC 8554 section 6.1)
abbrev pub key_length : ℕ
key_length = 60

-- The key in the octets of its BIT STRING: as it is, or as an OCTET STRING of 60 octets (RFC 8708 section 4).
pub record HoldsKey (key octets : List ℕ) : Type 0 where
  pub of_length : length key ≡ key_length
  pub raw_or_wrapped : (octets ≡ key) ⊎ (octets ≡ 4 ∷ key_length ∷ key)

-- SubjectPublicKeyInfo (4.1.2.7)
pub record IsKey (key bytes : List ℕ) : Type 0 where
  pub algorithm : List ℕ
  pub octets : List ℕ
  pub bits : List ℕ
  pub is_algorithm : IsHssAlgorithm algorithm
  pub holds_key : HoldsKey key octets
  pub is_bits : Der bit_string_tag (0 ∷ octets) bits
  pub is_sequence : Der sequence_tag (algorithm ++ bits) bytes

-- issuerUniqueID and subjectUniqueID (4.1.2.8), which are not looked into and need not be there
abbrev pub IsUniqueId : ℕ → List ℕ → Type 0
IsUniqueId tag bytes = (bytes ≡ []) ⊎ ((bits : List ℕ) × Der tag bits bytes)

-- The parts of TBSCertificate (4.1), one after another.
pub record TbsParts : Type 0 where
  pub version : List ℕ
  pub serial : List ℕ
  pub algorithm : List ℕ
  pub validity : List ℕ
  pub key : List ℕ
  pub issuer_id : List ℕ
  pub subject_id : List ℕ
  pub extensions : List ℕ

-- the parts, joined in the standard's order with the issuer and the subject
abbrev pub joined : TbsParts → Certificate → List ℕ
joined parts fields =
    parts.version ++ (parts.serial ++ (parts.algorithm ++ (fields.issuer ++ (parts.validity ++ (fields.subject
    ++ (parts.key ++ (parts.issuer_id ++ (parts.subject_id ++ parts.extensions))))))))

-- TBSCertificate (4.1)
pub record IsTbs (fields : Certificate) (bytes : List ℕ) : Type 0 where
  pub parts : TbsParts
  pub is_version : IsVersion3 parts.version
  pub is_serial : IsSerial fields.serial parts.serial
  pub is_algorithm : IsHssAlgorithm parts.algorithm
  pub is_issuer : IsName fields.issuer
  pub is_validity : IsValidity fields.not_before fields.not_after parts.validity
  pub is_subject : IsName fields.subject
  pub is_key : IsKey fields.key parts.key
  pub is_issuer_id : IsUniqueId issuer_unique_id_tag parts.issuer_id
  pub is_subject_id : IsUniqueId subject_unique_id_tag parts.subject_id
  pub are_extensions : HasExtensions fields.restrictions parts.extensions
  pub is_sequence : Der sequence_tag (joined parts fields) bytes

-- Certificate (4.1): the bytes are these parts and nothing else.
pub record CertOf (bytes : List ℕ) (fields : Certificate) : Type 0 where
  pub algorithm : List ℕ
  pub bits : List ℕ
  pub whole : fields.whole ≡ bytes
  pub is_tbs : IsTbs fields fields.tbs
  pub is_algorithm : IsHssAlgorithm algorithm
  pub is_signature : IsSignature fields.signature bits
  pub is_sequence : Der sequence_tag (fields.tbs ++ (algorithm ++ bits)) bytes
