-- When a message is signed by one to whom a chain of certificates leads down from an anchor, and why not.
use Rattle.std.specs.Prelude.{◌≡◌, ◌⊎◌, ℕ, ℤ, List, Option, Some, None}
use Rattle.std.specs.List.{AllByRecursion, Contains}
use Rattle.sz_cms.specs.Message.{Signed, Signer}
use Rattle.sz_chain.specs.Chain.{Chain, IsIn, lowest}
use Rattle.sz_x509.specs.Certificate.{Certificate}
use Rattle.sz_chain.specs.Signers.{FitsIdentifier, IsFitting, Verifies}
use Rattle.sz_chain.specs.declared.fault.ChainFault.{ChainFault}
use Rattle.sz_chain.specs.declared.fault.ChainFault.TheVariants as fault
use Rattle.sz_chain.specs.declared.fault.Why.TheVariants as why

-- the content is the message's, and one of its signers, whose digest fits, signed it with the key of the first
-- certificate of a chain, which fits the signer
pub record SignedBy (signed : Signed) (bag anchors : List (List ℕ)) (crls : Option (List (List ℕ))) (when : ℤ)
    (content : List ℕ) : Type 0 where
  pub has_content : signed.content ≡ Some content
  pub signer : Signer
  pub is_fitting : IsFitting signed content signer
  pub certs : List Certificate
  pub anchor : Certificate
  pub in_bag : AllByRecursion (IsIn bag) certs
  pub is_anchor : IsIn anchors anchor
  pub chain : Chain crls when certs anchor
  pub fits : FitsIdentifier signer.identifier (lowest certs anchor)
  pub verifies : Verifies signer content (lowest certs anchor)

-- ---- what there is, each more than the one before

-- a content and a signer
pub record HasSigner (signed : Signed) : Type 0 where
  pub content : List ℕ
  pub signer : Signer
  pub has_content : signed.content ≡ Some content
  pub is_signer : Contains signed.signers signer

-- a signer whose digest fits
pub record HasFitting (signed : Signed) : Type 0 where
  pub content : List ℕ
  pub signer : Signer
  pub has_content : signed.content ≡ Some content
  pub is_fitting : IsFitting signed content signer

-- a certificate of the bag or of the anchors that fits such a signer
pub record HasCandidate (signed : Signed) (bag anchors : List (List ℕ)) : Type 0 where
  pub content : List ℕ
  pub signer : Signer
  pub cert : Certificate
  pub has_content : signed.content ≡ Some content
  pub is_fitting : IsFitting signed content signer
  pub is_cert : IsIn bag cert ⊎ IsIn anchors cert
  pub fits : FitsIdentifier signer.identifier cert

-- one whose key verifies the signer's signature
pub record HasVerified (signed : Signed) (bag anchors : List (List ℕ)) : Type 0 where
  pub content : List ℕ
  pub signer : Signer
  pub cert : Certificate
  pub has_content : signed.content ≡ Some content
  pub is_fitting : IsFitting signed content signer
  pub is_cert : IsIn bag cert ⊎ IsIn anchors cert
  pub fits : FitsIdentifier signer.identifier cert
  pub verifies : Verifies signer content cert

-- one from which a chain leads up to an anchor
abbrev pub IsSignedByOne : Signed → List (List ℕ) → List (List ℕ) → Option (List (List ℕ)) → ℤ → Type 0
IsSignedByOne signed bag anchors crls when = (content : List ℕ) × SignedBy signed bag anchors crls when content

-- ---- why not: what there is, and what there isn't

abbrev pub IsUnsignedFor : Signed → List (List ℕ) → List (List ℕ) → Option (List (List ℕ)) → ℤ → ChainFault → Type 0
IsUnsignedFor signed bag anchors crls when fault.NoSigner = HasSigner signed → ⊥
IsUnsignedFor signed bag anchors crls when fault.BadDigest = HasSigner signed × (HasFitting signed → ⊥)
IsUnsignedFor signed bag anchors crls when (fault.NoChain why.NoCandidate) =
    HasFitting signed × (HasCandidate signed bag anchors → ⊥)
IsUnsignedFor signed bag anchors crls when (fault.NoChain why.Signature) =
    HasCandidate signed bag anchors × (HasVerified signed bag anchors → ⊥)
IsUnsignedFor signed bag anchors crls when (fault.NoChain why.Path) =
    HasVerified signed bag anchors × (IsSignedByOne signed bag anchors None when → ⊥)
IsUnsignedFor signed bag anchors crls when (fault.NoChain why.Revoked) =
    IsSignedByOne signed bag anchors None when × (IsSignedByOne signed bag anchors crls when → ⊥)
