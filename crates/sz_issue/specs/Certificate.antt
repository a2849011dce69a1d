-- What is written of a certificate: its parts in the standard's order, each in its one form (RFC 5280 section 4.1).
use Rattle.std.specs.Prelude.{◌≡◌, ℕ, ℤ, pos, ◌+◌, ◌^◌, if◌then◌else◌, Bool, true, false, List, [], ◌∷◌, ◌++◌, length, take, Option, Some}
use Rattle.sha2.specs.Sha256.{sha256}
use Rattle.sz_der.specs.Der.{Der}
use Rattle.sz_der.specs.Integer.{IsIntegerOf}
use Rattle.sz_der.specs.Tags.{bit_string_tag, boolean_tag, object_identifier_tag, octet_string_tag, sequence_tag}
use Rattle.sz_issue.specs.Parts.{IsCommonName, IsWrittenSerial, IsWrittenTime}
use Rattle.sz_issue.specs.declared.cert.CertSpec.{CertSpec}
use Rattle.sz_x509.specs.Certificate.{Certificate, IsHssAlgorithm, IsVersion3, key_length}
use Rattle.sz_x509.specs.Extensions.{Extension, IsPathLength, Restrictions}
use Rattle.sz_x509.specs.Identifiers.{basic_constraints_oid, key_usage_oid, subject_key_identifier_oid}
use Rattle.sz_x509.specs.Tags.{extensions_tag}

-- What a certificate is to say. Names are the octets of their texts; times are seconds since 1970.
pub record CertValues : Type 0 where
  pub serial : ℕ
  pub issuer : List ℕ
  pub subject : List ℕ
  pub not_before : ℤ
  pub not_after : ℤ
  pub key : List ℕ
  pub ca : Bool
  pub path_len : Option ℕ

-- BOOLEAN DEFAULT FALSE: false is not spelled out (X.690 section 11.5), and true has all bits set (11.1)
abbrev pub IsDefaultFalse : Bool → List ℕ → Type 0
IsDefaultFalse false bytes = bytes ≡ []
IsDefaultFalse true bytes = Der boolean_tag (255 ∷ []) bytes

-- Extension (4.1)
pub record IsWrittenExtension (extension : Extension) (bytes : List ℕ) : Type 0 where
  pub identifier : List ℕ
  pub flag : List ℕ
  pub value : List ℕ
  pub is_identifier : Der object_identifier_tag extension.identifier identifier
  pub is_flag : IsDefaultFalse extension.critical flag
  pub is_value : Der octet_string_tag extension.value value
  pub is_sequence : Der sequence_tag (identifier ++ (flag ++ value)) bytes

-- Validity (4.1.2.5), the first second and then the last
pub record IsWrittenValidity (not_before not_after : ℤ) (bytes : List ℕ) : Type 0 where
  pub first : List ℕ
  pub last : List ℕ
  pub is_first : IsWrittenTime not_before first
  pub is_last : IsWrittenTime not_after last
  pub is_sequence : Der sequence_tag (first ++ last) bytes

-- SubjectPublicKeyInfo (4.1.2.7), with the key as an OCTET STRING of 60 octets in the BIT STRING (RFC 8708 section 4)
pub record IsWrittenKey (key bytes : List ℕ) : Type 0 where
  pub of_length : length key ≡ key_length
  pub algorithm : List ℕ
  pub bits : List ℕ
  pub is_algorithm : IsHssAlgorithm algorithm
  pub is_bits : Der bit_string_tag (0 ∷ octet_string_tag ∷ key_length ∷ key) bits
  pub is_sequence : Der sequence_tag (algorithm ++ bits) bytes

-- BasicConstraints (4.2.1.9)
pub record IsWrittenConstraints (ca : Bool) (path_len : Option ℕ) (bytes : List ℕ) : Type 0 where
  pub flag : List ℕ
  pub path : List ℕ
  pub is_flag : IsDefaultFalse ca flag
  pub is_path : IsPathLength path_len path
  pub is_sequence : Der sequence_tag (flag ++ path) bytes

-- KeyUsage (4.2.1.3): digitalSignature, and for an authority keyCertSign and cRLSign; bit k has the value 2^k
abbrev pub usage_of : Bool → ℕ
usage_of ca = if ca then 2 ^ 0 + 2 ^ 5 + 2 ^ 6 else 2 ^ 0

-- as named bits: how many are unused, and the bits from the first one on, without clear ones at the end (X.690
-- section 11.2.2)
abbrev pub usage_octets : Bool → List ℕ
usage_octets ca = if ca then 1 ∷ 134 ∷ [] else 7 ∷ 128 ∷ []

-- SubjectKeyIdentifier (4.2.1.2): the first 20 octets of the SHA-256 of the key as it is (RFC 7093 section 2)
abbrev pub key_id_of : List ℕ → List ℕ
key_id_of key = take 20 (sha256 key)

-- the octets of the values of the three extensions
pub record AreValues (values : CertValues) (constraints usage key_id : List ℕ) : Type 0 where
  pub are_constraints : IsWrittenConstraints values.ca values.path_len constraints
  pub is_usage : Der bit_string_tag (usage_octets values.ca) usage
  pub is_key_id : Der octet_string_tag (key_id_of values.key) key_id

-- the extensions, in their order; the first two are critical
abbrev pub constraints_extension : List ℕ → Extension
constraints_extension value = record { identifier = basic_constraints_oid; critical = true; value = value }

abbrev pub usage_extension : List ℕ → Extension
usage_extension value = record { identifier = key_usage_oid; critical = true; value = value }

abbrev pub key_id_extension : List ℕ → Extension
key_id_extension value = record { identifier = subject_key_identifier_oid; critical = false; value = value }

-- `[3]` and its SEQUENCE (4.1.2.9)
pub record AreWrittenExtensions (values : CertValues) (bytes : List ℕ) : Type 0 where
  pub constraints : List ℕ
  pub usage : List ℕ
  pub key_id : List ℕ
  pub are_values : AreValues values constraints usage key_id
  pub first : List ℕ
  pub second : List ℕ
  pub third : List ℕ
  pub is_first : IsWrittenExtension (constraints_extension constraints) first
  pub is_second : IsWrittenExtension (usage_extension usage) second
  pub is_third : IsWrittenExtension (key_id_extension key_id) third
  pub sequence : List ℕ
  pub is_sequence : Der sequence_tag (first ++ (second ++ third)) sequence
  pub is_field : Der extensions_tag sequence bytes

-- ---- the whole

-- TBSCertificate (4.1), without unique identifiers
pub record IsWrittenTbs (values : CertValues) (bytes : List ℕ) : Type 0 where
  pub version : List ℕ
  pub serial : List ℕ
  pub algorithm : List ℕ
  pub issuer : List ℕ
  pub validity : List ℕ
  pub subject : List ℕ
  pub key : List ℕ
  pub extensions : List ℕ
  pub is_version : IsVersion3 version
  pub is_serial : IsWrittenSerial values.serial serial
  pub is_algorithm : IsHssAlgorithm algorithm
  pub is_issuer : IsCommonName values.issuer issuer
  pub is_validity : IsWrittenValidity values.not_before values.not_after validity
  pub is_subject : IsCommonName values.subject subject
  pub is_key : IsWrittenKey values.key key
  pub are_extensions : AreWrittenExtensions values extensions
  pub is_sequence : Der sequence_tag
      (version ++ (serial ++ (algorithm ++ (issuer ++ (validity ++ (subject ++ (key ++ extensions))))))) bytes

-- ---- what a certificate that was written says

abbrev pub restrictions_of : CertValues → Restrictions
restrictions_of values = record {
  ca = values.ca;
  path_len = values.path_len;
  usage = Some (usage_of values.ca);
  key_id = Some (key_id_of values.key);
}

-- the fields of TBSCertificate are these values
pub record Says (values : CertValues) (fields : Certificate) : Type 0 where
  pub serial : IsIntegerOf (pos values.serial) fields.serial
  pub issuer : IsCommonName values.issuer fields.issuer
  pub not_before : fields.not_before ≡ values.not_before
  pub not_after : fields.not_after ≡ values.not_after
  pub subject : IsCommonName values.subject fields.subject
  pub key : fields.key ≡ values.key
  pub restrictions : fields.restrictions ≡ restrictions_of values

-- the fields of the whole certificate, by those of its TBSCertificate
unfoldable pub signed : Certificate → List ℕ → List ℕ → List ℕ → Certificate
signed fields tbs signature whole = record fields { whole = whole; tbs = tbs; signature = signature }

-- ---- what contracts see

-- what a `CertSpec` says
abbrev pub cert_values : CertSpec → CertValues
cert_values spec = record {
  serial = spec.serial;
  issuer = spec.issuer;
  subject = spec.subject;
  not_before = spec.not_before.0;
  not_after = spec.not_after.0;
  key = spec.key;
  ca = spec.ca;
  path_len = spec.path_len;
}
