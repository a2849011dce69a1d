-- The extensions of a certificate as a relation on whole strings (RFC 5280 sections 4.1 and 4.2).
use Rattle.std.specs.Prelude.{◌≡◌, ◌≢◌, ◌⊎◌, ◌<◌, ◌≤◌, ◌^◌, ℕ, pos, ⊤, Bool, true, false, List, [], ◌∷◌, ◌++◌, Option, Some, None, length, option_map, bytes_eq}
use Rattle.std.specs.List.{AllByRecursion, find, list_any}
use Rattle.sz_der.specs.Content.{IsBoolean, HoldsBits}
use Rattle.sz_der.specs.Der.{Der}
use Rattle.sz_der.specs.Integer.{IsIntegerOf}
use Rattle.sz_der.specs.Spots.{AreEach}
use Rattle.sz_der.specs.Tags.{bit_string_tag, boolean_tag, integer_tag, object_identifier_tag, octet_string_tag, sequence_tag}
use Rattle.sz_x509.specs.Identifiers.{authority_key_identifier_oid, basic_constraints_oid, certificate_policies_oid, extended_key_usage_oid, key_usage_oid, subject_alt_name_oid, subject_key_identifier_oid}
use Rattle.sz_x509.specs.Tags.{extensions_tag}

-- an extension: the octets of its identifier, whether it is critical, and the octets of its value
pub record Extension : Type 0 where
  pub identifier : List ℕ
  pub critical : Bool
  pub value : List ℕ

-- BOOLEAN DEFAULT FALSE, which is read where it is spelled out too
abbrev pub IsFlag : Bool → List ℕ → Type 0
IsFlag flag bytes =
    ((bytes ≡ []) × (flag ≡ false)) ⊎ ((content : List ℕ) × IsBoolean flag content × Der boolean_tag content bytes)

-- Extension (4.1)
pub record IsExtension (extension : Extension) (bytes : List ℕ) : Type 0 where
  pub identifier : List ℕ
  pub flag : List ℕ
  pub value : List ℕ
  pub is_identifier : Der object_identifier_tag extension.identifier identifier
  pub is_flag : IsFlag extension.critical flag
  pub is_value : Der octet_string_tag extension.value value
  pub is_sequence : Der sequence_tag (identifier ++ (flag ++ value)) bytes

-- extensions one after another
abbrev pub AreExtensions : List Extension → List ℕ → Type 0
AreExtensions extensions bytes = AreEach IsExtension extensions bytes

-- `[3]` and a SEQUENCE of extensions, which may be empty; or no extensions, and nothing written
abbrev pub AreInField : List Extension → List ℕ → Type 0
AreInField extensions bytes =
    ((bytes ≡ []) × (extensions ≡ []))
    ⊎ ((content : List ℕ) × (sequence : List ℕ) × AreExtensions extensions content
    × Der sequence_tag content sequence × Der extensions_tag sequence bytes)

-- ---- what extensions say together

-- how many extensions a certificate may have; the RFC sets no limit
abbrev pub most_extensions : ℕ
most_extensions = 32

-- no identifier stands twice (4.2)
abbrev pub AreDistinct : List Extension → Type 0
AreDistinct [] = ⊤
AreDistinct (extension ∷ extensions) =
    AllByRecursion (λ other. other.identifier ≢ extension.identifier) extensions × AreDistinct extensions

-- the extensions that are known (4.2.1); the last four restrict nothing here
abbrev pub known : List (List ℕ)
known =
    basic_constraints_oid ∷ key_usage_oid ∷ subject_key_identifier_oid ∷ authority_key_identifier_oid
    ∷ extended_key_usage_oid ∷ subject_alt_name_oid ∷ certificate_policies_oid ∷ []

abbrev pub is_known : List ℕ → Bool
is_known identifier = list_any (bytes_eq identifier) known

-- an extension that is critical is known (4.2)
abbrev pub IsUnderstood : Extension → Type 0
IsUnderstood extension = extension.critical ≡ true → is_known extension.identifier ≡ true

-- the value of the extension with this identifier
abbrev pub value_of : List ℕ → List Extension → Option (List ℕ)
value_of identifier extensions =
    option_map (λ extension. extension.value) (find (λ extension. bytes_eq extension.identifier identifier) extensions)

-- the path length of basicConstraints, of 32 bits
abbrev pub IsPathLength : Option ℕ → List ℕ → Type 0
IsPathLength None bytes = bytes ≡ []
IsPathLength (Some n) bytes =
    (n < 2 ^ 32) × ((content : List ℕ) × IsIntegerOf (pos n) content × Der integer_tag content bytes)

-- BasicConstraints (4.2.1.9)
pub record IsBasicConstraints (ca : Bool) (path_len : Option ℕ) (bytes : List ℕ) : Type 0 where
  pub flag : List ℕ
  pub path : List ℕ
  pub is_flag : IsFlag ca flag
  pub is_path : IsPathLength path_len path
  pub is_sequence : Der sequence_tag (flag ++ path) bytes

-- KeyUsage (4.2.1.3), a BIT STRING of named bits: bit k has the value 2^k, and bits past the sixteenth are passed over
pub record IsKeyUsage (usage : ℕ) (bytes : List ℕ) : Type 0 where
  pub content : List ℕ
  pub of_16_bits : usage < 2 ^ 16
  pub holds_bits : HoldsBits content usage
  pub is_item : Der bit_string_tag content bytes

-- what a certificate is restricted to; without basicConstraints it is that of no authority (4.2.1.9)
pub record Restrictions : Type 0 where
  pub ca : Bool
  pub path_len : Option ℕ
  pub usage : Option ℕ
  pub key_id : Option (List ℕ)

abbrev pub HasBasicConstraints : Option (List ℕ) → Bool → Option ℕ → Type 0
HasBasicConstraints None ca path_len = (ca ≡ false) × (path_len ≡ None)
HasBasicConstraints (Some value) ca path_len = IsBasicConstraints ca path_len value

abbrev pub HasKeyUsage : Option (List ℕ) → Option ℕ → Type 0
HasKeyUsage None usage = usage ≡ None
HasKeyUsage (Some value) usage = (bits : ℕ) × (usage ≡ Some bits) × IsKeyUsage bits value

-- SubjectKeyIdentifier (4.2.1.2), an OCTET STRING
abbrev pub HasKeyIdentifier : Option (List ℕ) → Option (List ℕ) → Type 0
HasKeyIdentifier None key_id = key_id ≡ None
HasKeyIdentifier (Some value) key_id = (octets : List ℕ) × (key_id ≡ Some octets) × Der octet_string_tag octets value

-- the extensions are few, distinct and understood, and restrict a certificate to this
pub record Restrict (extensions : List Extension) (restrictions : Restrictions) : Type 0 where
  pub few : length extensions ≤ most_extensions
  pub distinct : AreDistinct extensions
  pub understood : AllByRecursion IsUnderstood extensions
  pub basic_constraints :
      HasBasicConstraints (value_of basic_constraints_oid extensions) restrictions.ca restrictions.path_len
  pub key_usage : HasKeyUsage (value_of key_usage_oid extensions) restrictions.usage
  pub key_identifier : HasKeyIdentifier (value_of subject_key_identifier_oid extensions) restrictions.key_id

-- the bytes are the field of extensions that restrict a certificate to this
pub record HasExtensions (restrictions : Restrictions) (bytes : List ℕ) : Type 0 where
  pub extensions : List Extension
  pub in_field : AreInField extensions bytes
  pub restrict : Restrict extensions restrictions
