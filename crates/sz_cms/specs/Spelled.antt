-- What is written of a message: its parts in the standard's order, each in its one form (RFC 5652 sections 3 and 5).
use Rattle.std.specs.Prelude.{◌≡◌, ℕ, ◌<◌, if◌then◌else◌, List, [], ◌∷◌, ◌++◌, drop, Option, Some, None, bytes_eq}
use Rattle.std.specs.List.{concat}
use Rattle.sha2.specs.Sha256.{sha256}
use Rattle.sz_der.specs.Der.{Der}
use Rattle.sz_cms.specs.Message.{Algorithm, IsAlgorithm, IsContent, IsContentInfo, IsIssuerSerial}

-- ---- object identifiers, as the octets of their contents

-- 1.2.840.113549.1.7.1, id-data (4)
abbrev pub id_data : List ℕ
id_data = 42 ∷ 134 ∷ 72 ∷ 134 ∷ 247 ∷ 13 ∷ 1 ∷ 7 ∷ 1 ∷ []

-- 1.2.840.113549.1.7.2, id-signedData (5.1)
abbrev pub id_signed_data : List ℕ
id_signed_data = 42 ∷ 134 ∷ 72 ∷ 134 ∷ 247 ∷ 13 ∷ 1 ∷ 7 ∷ 2 ∷ []

-- 1.2.840.113549.1.9.3, id-contentType (11.1)
abbrev pub id_content_type : List ℕ
id_content_type = 42 ∷ 134 ∷ 72 ∷ 134 ∷ 247 ∷ 13 ∷ 1 ∷ 9 ∷ 3 ∷ []

-- 1.2.840.113549.1.9.4, id-messageDigest (11.2)
abbrev pub id_message_digest : List ℕ
id_message_digest = 42 ∷ 134 ∷ 72 ∷ 134 ∷ 247 ∷ 13 ∷ 1 ∷ 9 ∷ 4 ∷ []

-- 2.16.840.1.101.3.4.2.1, id-sha256, whose parameters are left out (RFC 5754 section 2)
abbrev pub by_sha256 : Algorithm
by_sha256 = record { identifier = 96 ∷ 134 ∷ 72 ∷ 1 ∷ 101 ∷ 3 ∷ 4 ∷ 2 ∷ 1 ∷ []; parameters = [] }

-- 1.2.840.113549.1.9.16.3.17, id-alg-hss-lms-hashsig, which has no parameters (RFC 8708 section 3)
abbrev pub by_hss_lms : Algorithm
by_hss_lms = record { identifier = 42 ∷ 134 ∷ 72 ∷ 134 ∷ 247 ∷ 13 ∷ 1 ∷ 9 ∷ 16 ∷ 3 ∷ 17 ∷ []; parameters = [] }

-- ---- signed attributes

-- Attribute (5.3) of one value, which has this tag and content
pub record IsOneValued (type : List ℕ) (tag : ℕ) (content bytes : List ℕ) : Type 0 where
  pub identifier : List ℕ
  pub value : List ℕ
  pub set : List ℕ
  pub is_identifier : Der 6 type identifier
  pub is_value : Der tag content value
  pub is_set : Der 49 value set
  pub is_sequence : Der 48 (concat (identifier ∷ set ∷ [])) bytes

-- The order of what a SET OF holds (X.690 section 11.6): where two strings first differ, the first has the lower octet.
pub record StandsBefore (first second : List ℕ) : Type 0 where
  pub same : List ℕ
  pub lower : ℕ
  pub higher : ℕ
  pub rest : List ℕ
  pub other : List ℕ
  pub is_first : first ≡ same ++ lower ∷ rest
  pub is_second : second ≡ same ++ higher ∷ other
  pub ascends : lower < higher

-- SignedAttributes under the tag of SET (5.3, 5.4): the content's type and its digest, in the order of a SET OF
pub record AreWrittenAttributes (kind content bytes : List ℕ) : Type 0 where
  pub type : List ℕ
  pub digest : List ℕ
  pub is_type : IsOneValued id_content_type 6 kind type
  pub is_digest : IsOneValued id_message_digest 4 (sha256 content) digest
  pub in_order : StandsBefore type digest
  pub is_set : Der 49 (concat (type ∷ digest ∷ [])) bytes

-- ---- a signer

-- SignerInfo (5.3), of version 1, since the signer is known by issuer and serial number. The attributes that it signed
-- have the tag of `[0]` here, and there are no unsigned ones.
pub record IsWrittenSigner (issuer serial attributes signature bytes : List ℕ) : Type 0 where
  pub version : List ℕ
  pub identifier : List ℕ
  pub digest_algorithm : List ℕ
  pub signature_algorithm : List ℕ
  pub octets : List ℕ
  pub is_version : Der 2 (1 ∷ []) version
  pub is_identifier : IsIssuerSerial issuer serial identifier
  pub is_digest_algorithm : IsAlgorithm by_sha256 digest_algorithm
  pub is_signature_algorithm : IsAlgorithm by_hss_lms signature_algorithm
  pub is_signature : Der 4 signature octets
  pub is_sequence : Der 48
      (concat (version ∷ identifier ∷ digest_algorithm ∷ (160 ∷ drop 1 attributes) ∷ signature_algorithm ∷ octets ∷ []))
      bytes

-- ---- signed data

-- CMSVersion of SignedData (5.1) whose certificates and lists are of X.509 alone, and whose signers are of version 1: 1
-- where the type of the content is id-data, else 3
abbrev pub signed_version : List ℕ → ℕ
signed_version kind = if bytes_eq kind id_data then 1 else 3

-- `[1]` with the revocation lists (10.2.1), or nothing where there are none
abbrev pub IsListsField : List (List ℕ) → List ℕ → Type 0
IsListsField [] bytes = bytes ≡ []
IsListsField (crl ∷ crls) bytes = Der 161 (concat (crl ∷ crls)) bytes

-- what is signed, and what comes with it: the content, the certificates, and the revocation lists
pub record Carried : Type 0 where
  pub kind : List ℕ
  pub content : Option (List ℕ)
  pub certs : List (List ℕ)
  pub crls : List (List ℕ)

-- SignedData (5.1). What the SETs of digest algorithms and of signers hold is given; certificates and lists stand in
-- the order in which they are given.
pub record IsWrittenSigned (digests signers : List ℕ) (carried : Carried) (bytes : List ℕ) : Type 0 where
  pub version : List ℕ
  pub algorithms : List ℕ
  pub content : List ℕ
  pub certs : List ℕ
  pub crls : List ℕ
  pub signer_infos : List ℕ
  pub is_version : Der 2 (signed_version carried.kind ∷ []) version
  pub are_algorithms : Der 49 digests algorithms
  pub is_content : IsContent carried.kind carried.content content
  pub are_certs : Der 160 (concat carried.certs) certs
  pub are_crls : IsListsField carried.crls crls
  pub are_signers : Der 49 signers signer_infos
  pub is_sequence : Der 48 (concat (version ∷ algorithms ∷ content ∷ certs ∷ crls ∷ signer_infos ∷ [])) bytes

-- SignedData of one signer, whose digest algorithm is the one that is named
pub record IsSignedByOne (signer : List ℕ) (carried : Carried) (bytes : List ℕ) : Type 0 where
  pub digest : List ℕ
  pub is_digest : IsAlgorithm by_sha256 digest
  pub is_signed : IsWrittenSigned digest signer carried bytes

-- ---- the messages

-- a content and certificates, without revocation lists
abbrev pub content_of : List ℕ → List ℕ → List (List ℕ) → Carried
content_of kind content certs = record { kind = kind; content = Some content; certs = certs; crls = [] }

-- certificates and revocation lists, without a content
abbrev pub alone_of : List (List ℕ) → List (List ℕ) → Carried
alone_of certs crls = record { kind = id_data; content = None; certs = certs; crls = crls }

-- ContentInfo (3) of SignedData with one signer
pub record IsWrittenMessage (carried : Carried) (issuer serial attributes signature bytes : List ℕ) : Type 0 where
  pub signer : List ℕ
  pub signed : List ℕ
  pub is_signer : IsWrittenSigner issuer serial attributes signature signer
  pub is_signed : IsSignedByOne signer carried signed
  pub is_info : IsContentInfo id_signed_data signed bytes

-- ContentInfo (3) of SignedData with certificates and revocation lists, without digest algorithms and signers (5.2)
pub record AreWrittenCerts (certs crls : List (List ℕ)) (bytes : List ℕ) : Type 0 where
  pub signed : List ℕ
  pub is_signed : IsWrittenSigned [] [] (alone_of certs crls) signed
  pub is_info : IsContentInfo id_signed_data signed bytes
