-- What the writers write.
use Rattle.std.specs.Prelude.{ℕ, true, ◌≤◌, List, [], ◌∷◌, length, drop, Some, None}
use Rattle.std.specs.List.{AllByRecursion}
use Rattle.sha2.specs.Sha256.{sha256}
use Rattle.sz_der.specs.Der.{Der}
use Rattle.sz_der.specs.Integer.{IsInteger}
use Rattle.sz_der.specs.Tags.{context_constructed, sequence_tag, set_tag}
use Rattle.sz_cms.specs.Message.{HasAttributes, IssuerSerial, Signed, SignedAttributes, Signer}
use Rattle.sz_cms.specs.Identifiers.{data_oid}

-- one SEQUENCE
abbrev pub IsSequence : List ℕ → Type 0
IsSequence bytes = (content : List ℕ) × Der sequence_tag content bytes

-- at most so many, each one SEQUENCE
pub record AreSequences (most : ℕ) (items : List (List ℕ)) : Type 0 where
  pub few : length items ≤ most
  pub each : AllByRecursion IsSequence items

-- what a signer is known by: the issuer is one SEQUENCE, and the serial number the octets of an INTEGER
pub record NamesSigner (issuer serial : List ℕ) : Type 0 where
  pub is_issuer : IsSequence issuer
  pub is_serial : IsInteger serial

-- the attributes that a signer of the content signs, under the tag of SET
abbrev pub AreAttributesOf : List ℕ → List ℕ → List ℕ → Type 0
AreAttributesOf kind content attributes =
    HasAttributes set_tag (record { whole = attributes; content_type = kind; digest = sha256 content })

-- those attributes in the message, under the tag of `[0]`
abbrev pub written_attributes : List ℕ → List ℕ → List ℕ → SignedAttributes
written_attributes kind content attributes =
    record { whole = context_constructed ∷ drop 1 attributes; content_type = kind; digest = sha256 content }

-- the signer of a signed message
abbrev pub written_signer : List ℕ → List ℕ → List ℕ → List ℕ → List ℕ → List ℕ → Signer
written_signer kind content issuer serial attributes signature = record {
  identifier = IssuerSerial issuer serial;
  by_hss = true;
  attributes = Some (written_attributes kind content attributes);
  signature = signature;
}

-- the signed data of a message of one signer
abbrev pub message_signed : List ℕ → List ℕ → List (List ℕ) → Signer → Signed
message_signed kind content certs signer =
    record { kind = kind; content = Some content; certs = certs; crls = []; signers = signer ∷ [] }

-- the signed data of certificates and revocation lists alone
abbrev pub certs_signed : List (List ℕ) → List (List ℕ) → Signed
certs_signed certs crls = record { kind = data_oid; content = None; certs = certs; crls = crls; signers = [] }
