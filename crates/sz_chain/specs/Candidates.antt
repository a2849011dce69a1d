-- The signers whose digest fits, and the places of certificates that fit them.
use Rattle.std.specs.Prelude.{◌↔◌, ℕ, List}
use Rattle.std.specs.List.{Contains}
use Rattle.sz_cms.specs.Message.{Signed, Signer}
use Rattle.sz_chain.specs.declared.place.Place.{Place}
use Rattle.sz_x509.specs.View.{view}
use Rattle.sz_chain.specs.Signers.{FitsIdentifier, IsFitting, Verifies}

-- these are the signers whose digest fits
abbrev pub AreFitting : Signed → List ℕ → List Signer → Type 0
AreFitting signed content signers = (signer : Signer) → Contains signers signer ↔ IsFitting signed content signer

-- the certificate at the place fits one of the signers
pub record FitsOne (signers : List Signer) (place : Place) : Type 0 where
  pub signer : Signer
  pub is_signer : Contains signers signer
  pub fits : FitsIdentifier signer.identifier (view place.cert)

-- and the signer's signature verifies under its key
pub record VerifiesOne (signers : List Signer) (content : List ℕ) (place : Place) : Type 0 where
  pub signer : Signer
  pub is_signer : Contains signers signer
  pub fits : FitsIdentifier signer.identifier (view place.cert)
  pub verifies : Verifies signer content (view place.cert)
