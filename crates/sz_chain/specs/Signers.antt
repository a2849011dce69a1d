-- The signers of a message, the certificates that fit them, and their signatures (RFC 5652 sections 5.3 to 5.6).
use Rattle.std.specs.Prelude.{◌≡◌, ℕ, List, Some}
use Rattle.std.specs.List.{Contains}
use Rattle.sz_cms.specs.Message.{Identifier, IssuerSerial, KeyId, Signed, Signer}
use Rattle.sz_cms.specs.Signature.{covered_of, DigestFits}
use Rattle.sz_lms.specs.Hss.{HssOk}
use Rattle.sz_x509.specs.Certificate.{Certificate}

-- the certificate is the one that the identifier tells of: by its issuer and serial number, or by its key identifier
abbrev pub FitsIdentifier : Identifier → Certificate → Type 0
FitsIdentifier (IssuerSerial issuer serial) cert = (cert.issuer ≡ issuer) × (cert.serial ≡ serial)
FitsIdentifier (KeyId octets) cert = cert.restrictions.key_id ≡ Some octets

-- a signer of the message whose digest is that of the content
pub record IsFitting (signed : Signed) (content : List ℕ) (signer : Signer) : Type 0 where
  pub is_signer : Contains signed.signers signer
  pub digest_fits : DigestFits signer signed.kind content

-- the signer's signature is one of what it covers, under the certificate's key
abbrev pub Verifies : Signer → List ℕ → Certificate → Type 0
Verifies signer content cert = HssOk cert.key (covered_of signer content) signer.signature
