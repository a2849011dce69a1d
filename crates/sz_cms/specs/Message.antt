-- A signed message, or a plain one, as a relation on whole strings: its parts in the standard's order, by DER
-- (RFC 5652 sections 3 and 5).
use Rattle.std.specs.Prelude.{◌≡◌, ◌≢◌, ◌⊎◌, ℕ, ◌+◌, ◌≤◌, ◌==◌, ◌&&◌, ◌||◌, Bool, List, [], ◌∷◌, length, slice_index, filter, map, Option, Some, None, bytes_eq}
use Rattle.std.specs.List.{concat}
use Rattle.sz_der.specs.Der.{Der}
use Rattle.sz_der.specs.Integer.{IsInteger}
use Rattle.sz_der.specs.Spots.{AreEach}
use Rattle.sz_der.specs.Tags.{context_constructed, context_primitive, integer_tag, object_identifier_tag, octet_string_tag, sequence_tag, set_tag}
use Rattle.sz_cms.specs.Identifiers.{content_type_oid, enveloped_data_oid, hss_lms_oid, message_digest_oid, sha_256_oid, signed_data_oid}
use Rattle.sz_cms.specs.Limits.{most_certs, most_crls, most_signers}

-- ---- what is kept of a message

-- What a signer is known by (5.3): the issuer of its certificate, a whole item, and the octets of the serial number; or
-- the certificate's key identifier.
pub data Identifier : Type 0 where
  IssuerSerial : List ℕ → List ℕ → Identifier
  KeyId : List ℕ → Identifier

-- signed attributes (5.3): their whole item, and the values of the content type and of the message digest
pub record SignedAttributes : Type 0 where
  pub whole : List ℕ
  pub content_type : List ℕ
  pub digest : List ℕ

-- a signer (5.3), which signs by HSS/LMS over SHA-256 or by other algorithms
pub record Signer : Type 0 where
  pub identifier : Identifier
  pub by_hss : Bool
  pub attributes : Option SignedAttributes
  pub signature : List ℕ

-- signed data (5.1), of a type of content given by its object identifier; certificates and revocation lists are whole
-- items
pub record Signed : Type 0 where
  pub kind : List ℕ
  pub content : Option (List ℕ)
  pub certs : List (List ℕ)
  pub crls : List (List ℕ)
  pub signers : List Signer

-- a message: a content of a type, given by its object identifier, or signed data
pub data Info : Type 0 where
  Plain : List ℕ → List ℕ → Info
  SignedData : Signed → Info

-- ---- items

-- any item
abbrev pub IsItem : List ℕ → Type 0
IsItem bytes = (tag : ℕ) × (content : List ℕ) × Der tag content bytes

-- an item with this tag, or nothing
abbrev pub IsOptional : ℕ → List ℕ → Type 0
IsOptional tag bytes = (bytes ≡ []) ⊎ ((content : List ℕ) × Der tag content bytes)

-- ---- a signer

-- CMSVersion (10.2.5), of any value
abbrev pub IsVersion : List ℕ → Type 0
IsVersion bytes = (number : List ℕ) × IsInteger number × Der integer_tag number bytes

-- an algorithm: its identifier, and its parameters as a whole item or nothing
pub record Algorithm : Type 0 where
  pub identifier : List ℕ
  pub parameters : List ℕ

-- AlgorithmIdentifier (RFC 5280 section 4.1.1.2)
pub record IsAlgorithm (algorithm : Algorithm) (bytes : List ℕ) : Type 0 where
  pub identifier : List ℕ
  pub is_identifier : Der object_identifier_tag algorithm.identifier identifier
  pub is_parameters : (algorithm.parameters ≡ []) ⊎ IsItem algorithm.parameters
  pub is_sequence : Der sequence_tag (concat (identifier ∷ algorithm.parameters ∷ [])) bytes

-- SHA-256, its parameters absent or NULL (RFC 5754 section 2)
abbrev pub is_sha256 : Algorithm → Bool
is_sha256 algorithm =
    bytes_eq algorithm.identifier sha_256_oid
    && (bytes_eq algorithm.parameters [] || bytes_eq algorithm.parameters (5 ∷ 0 ∷ []))

-- HSS/LMS, without parameters (RFC 8708 section 3)
abbrev pub is_hss_lms : Algorithm → Bool
is_hss_lms algorithm = bytes_eq algorithm.identifier hss_lms_oid && bytes_eq algorithm.parameters []

-- IssuerAndSerialNumber (10.2.4); the name is not looked into
pub record IsIssuerSerial (issuer serial bytes : List ℕ) : Type 0 where
  pub names : List ℕ
  pub number : List ℕ
  pub is_issuer : Der sequence_tag names issuer
  pub is_minimal : IsInteger serial
  pub is_serial : Der integer_tag serial number
  pub is_sequence : Der sequence_tag (concat (issuer ∷ number ∷ [])) bytes

-- SignerIdentifier (5.3)
abbrev pub IsIdentifier : Identifier → List ℕ → Type 0
IsIdentifier (IssuerSerial issuer serial) bytes = IsIssuerSerial issuer serial bytes
IsIdentifier (KeyId octets) bytes = Der context_primitive octets bytes

-- an attribute: the octets of its type, and its values one after another
pub record Attribute : Type 0 where
  pub type : List ℕ
  pub values : List ℕ

-- Attribute (5.3)
pub record IsAttribute (attribute : Attribute) (bytes : List ℕ) : Type 0 where
  pub identifier : List ℕ
  pub set : List ℕ
  pub is_identifier : Der object_identifier_tag attribute.type identifier
  pub is_set : Der set_tag attribute.values set
  pub is_sequence : Der sequence_tag (concat (identifier ∷ set ∷ [])) bytes

-- the values of the attributes of a type
abbrev pub values_of : List ℕ → List Attribute → List (List ℕ)
values_of type attributes =
    map (λ attribute. attribute.values) (filter (λ attribute. bytes_eq attribute.type type) attributes)

-- there is one attribute of the type, with one value, which has this tag and content (11.1, 11.2)
abbrev pub HasOne : List ℕ → ℕ → List ℕ → List Attribute → Type 0
HasOne type tag content attributes =
    (value : List ℕ) × (values_of type attributes ≡ value ∷ []) × Der tag content value

-- SignedAttributes (5.3), with the tag that stands before them; values of other attributes are not looked into
pub record HasAttributes (tag : ℕ) (attributes : SignedAttributes) : Type 0 where
  pub each : List Attribute
  pub content : List ℕ
  pub are_attributes : AreEach IsAttribute each content
  pub one_content_type : HasOne content_type_oid object_identifier_tag attributes.content_type each
  pub one_digest : HasOne message_digest_oid octet_string_tag attributes.digest each
  pub is_set : Der tag content attributes.whole

-- the field of signed attributes, `[0]` in place of the tag of SET, which need not be there
abbrev pub IsAttributesField : Option SignedAttributes → List ℕ → Type 0
IsAttributesField None bytes = bytes ≡ []
IsAttributesField (Some attributes) bytes = HasAttributes context_constructed attributes × (bytes ≡ attributes.whole)

-- The parts of SignerInfo (5.3) that nothing else is kept of.
pub record SignerParts : Type 0 where
  pub version : List ℕ
  pub identifier : List ℕ
  pub digest_algorithm : List ℕ
  pub attributes : List ℕ
  pub signature_algorithm : List ℕ
  pub signature : List ℕ
  pub unsigned : List ℕ

-- the parts, in the standard's order
abbrev pub signer_parts : SignerParts → List (List ℕ)
signer_parts parts =
    parts.version ∷ parts.identifier ∷ parts.digest_algorithm ∷ parts.attributes ∷ parts.signature_algorithm
    ∷ parts.signature ∷ parts.unsigned ∷ []

-- the two algorithms of a signer, and whether they are SHA-256 and HSS/LMS
pub record HasAlgorithms (by_hss : Bool) (digest_bytes signature_bytes : List ℕ) : Type 0 where
  pub digest : Algorithm
  pub signature : Algorithm
  pub is_digest : IsAlgorithm digest digest_bytes
  pub is_signature : IsAlgorithm signature signature_bytes
  pub told : by_hss ≡ (is_sha256 digest && is_hss_lms signature)

-- SignerInfo (5.3); unsigned attributes, in `[1]`, are not looked into
pub record IsSigner (signer : Signer) (bytes : List ℕ) : Type 0 where
  pub parts : SignerParts
  pub is_version : IsVersion parts.version
  pub is_identifier : IsIdentifier signer.identifier parts.identifier
  pub has_algorithms : HasAlgorithms signer.by_hss parts.digest_algorithm parts.signature_algorithm
  pub is_attributes : IsAttributesField signer.attributes parts.attributes
  pub is_signature : Der octet_string_tag signer.signature parts.signature
  pub is_unsigned : IsOptional (context_constructed + 1) parts.unsigned
  pub is_sequence : Der sequence_tag (concat (signer_parts parts)) bytes

-- ---- signed data

-- SET OF AlgorithmIdentifier (5.1)
pub record AreAlgorithms (bytes : List ℕ) : Type 0 where
  pub algorithms : List Algorithm
  pub content : List ℕ
  pub are_algorithms : AreEach IsAlgorithm algorithms content
  pub is_set : Der set_tag content bytes

-- `[0]` and an OCTET STRING
pub record IsExplicitOctets (octets bytes : List ℕ) : Type 0 where
  pub inner : List ℕ
  pub is_octets : Der octet_string_tag octets inner
  pub is_explicit : Der context_constructed inner bytes

-- the field of the content, which need not be there (5.2)
abbrev pub IsContentField : Option (List ℕ) → List ℕ → Type 0
IsContentField None bytes = bytes ≡ []
IsContentField (Some content) bytes = IsExplicitOctets content bytes

-- EncapsulatedContentInfo (5.2)
pub record IsContent (kind : List ℕ) (content : Option (List ℕ)) (bytes : List ℕ) : Type 0 where
  pub identifier : List ℕ
  pub field : List ℕ
  pub is_identifier : Der object_identifier_tag kind identifier
  pub is_field : IsContentField content field
  pub is_sequence : Der sequence_tag (concat (identifier ∷ field ∷ [])) bytes

-- the SEQUENCEs among items
abbrev pub sequences_of : List (List ℕ) → List (List ℕ)
sequences_of items = filter (λ item. slice_index item 0 == sequence_tag) items

-- items one after another, of which the SEQUENCEs are kept, at most so many; others are other choices (10.2.1, 10.2.2)
pub record AreChoices (most : ℕ) (kept : List (List ℕ)) (content : List ℕ) : Type 0 where
  pub items : List (List ℕ)
  pub are_items : AreEach (λ item bytes. (item ≡ bytes) × IsItem bytes) items content
  pub sequences : kept ≡ sequences_of items
  pub few : length kept ≤ most

-- a field of certificates (10.2.3) or revocation lists (10.2.1), which need not be there
abbrev pub IsChoicesField : ℕ → ℕ → List (List ℕ) → List ℕ → Type 0
IsChoicesField most tag kept bytes =
    ((bytes ≡ []) × (kept ≡ [])) ⊎ ((content : List ℕ) × AreChoices most kept content × Der tag content bytes)

-- SET OF SignerInfo (5.1), at most so many
pub record AreSigners (signers : List Signer) (bytes : List ℕ) : Type 0 where
  pub content : List ℕ
  pub are_signers : AreEach IsSigner signers content
  pub is_set : Der set_tag content bytes
  pub few : length signers ≤ most_signers

-- The parts of SignedData (5.1).
pub record SignedParts : Type 0 where
  pub version : List ℕ
  pub algorithms : List ℕ
  pub content : List ℕ
  pub certs : List ℕ
  pub crls : List ℕ
  pub signers : List ℕ

-- the parts, in the standard's order
abbrev pub signed_parts : SignedParts → List (List ℕ)
signed_parts parts =
    parts.version ∷ parts.algorithms ∷ parts.content ∷ parts.certs ∷ parts.crls ∷ parts.signers ∷ []

-- SignedData (5.1)
pub record IsSigned (signed : Signed) (bytes : List ℕ) : Type 0 where
  pub parts : SignedParts
  pub is_version : IsVersion parts.version
  pub are_algorithms : AreAlgorithms parts.algorithms
  pub is_content : IsContent signed.kind signed.content parts.content
  pub are_certs : IsChoicesField most_certs context_constructed signed.certs parts.certs
  pub are_crls : IsChoicesField most_crls (context_constructed + 1) signed.crls parts.crls
  pub are_signers : AreSigners signed.signers parts.signers
  pub is_sequence : Der sequence_tag (concat (signed_parts parts)) bytes

-- ---- the message

-- ContentInfo (3): the object identifier of the type, and `[0]` with the content
pub record IsContentInfo (kind inner bytes : List ℕ) : Type 0 where
  pub identifier : List ℕ
  pub field : List ℕ
  pub is_identifier : Der object_identifier_tag kind identifier
  pub is_field : Der context_constructed inner field
  pub is_sequence : Der sequence_tag (concat (identifier ∷ field ∷ [])) bytes

-- what is kept of a content that isn't signed: the octets of an OCTET STRING (4); enveloped data is not looked into
pub record HoldsPlain (kind content inner : List ℕ) : Type 0 where
  pub not_signed : kind ≢ signed_data_oid
  pub enveloped : kind ≡ enveloped_data_oid → content ≡ []
  pub octets : kind ≢ enveloped_data_oid → Der octet_string_tag content inner

-- the content of ContentInfo, by its type
abbrev pub Holds : Info → List ℕ → List ℕ → Type 0
Holds (Plain kind content) type inner = (type ≡ kind) × HoldsPlain kind content inner
Holds (SignedData signed) type inner = (type ≡ signed_data_oid) × IsSigned signed inner

-- the bytes are this message, and nothing behind it
pub record InfoOf (bytes : List ℕ) (info : Info) : Type 0 where
  pub type : List ℕ
  pub inner : List ℕ
  pub is_content_info : IsContentInfo type inner bytes
  pub holds : Holds info type inner
