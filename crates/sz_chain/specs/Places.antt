-- The certificates that read, of the anchors and of the bag, each at a place.
use Rattle.std.specs.Prelude.{◌≡◌, ℕ, Bool, true, false, if◌then◌else◌, List, None}
use Rattle.sz_x509.specs.Certificate.{Certificate}
use Rattle.sz_x509.specs.View.{view}
use Rattle.sz_chain.specs.Chain.{IsIn}
use Rattle.sz_chain.specs.Issuer.{Issuer}
use Rattle.sz_chain.specs.Sets.{At}
use Rattle.sz_chain.specs.declared.place.Place.{Place}

-- what a place issues by: an anchor gives a name and a key alone
abbrev pub issuer_at : Place → Issuer
issuer_at place = record {
  name = (view place.cert).subject;
  key = (view place.cert).key;
  usage = if place.is_anchor then None else (view place.cert).restrictions.usage;
}

-- the certificate stands at one of the places, as an anchor or not
pub record StandsAmong (places : List Place) (is_anchor : Bool) (cert : Certificate) : Type 0 where
  pub at : ℕ
  pub place : Place
  pub is_at : At places at place
  pub kind : place.is_anchor ≡ is_anchor
  pub is_cert : view place.cert ≡ cert

-- these are the certificates among the strings, all anchors or none
pub record AreOf (is_anchor : Bool) (certs : List (List ℕ)) (places : List Place) : Type 0 where
  pub each : (at : ℕ) (place : Place) → At places at place
      → (place.is_anchor ≡ is_anchor) × IsIn certs (view place.cert)
  pub all : (cert : Certificate) → IsIn certs cert → StandsAmong places is_anchor cert

-- these are the certificates among the anchors and those of the bag
pub record ArePlaces (anchors bag : List (List ℕ)) (places : List Place) : Type 0 where
  pub each : (at : ℕ) (place : Place) → At places at place
      → IsIn (if place.is_anchor then anchors else bag) (view place.cert)
  pub each_anchor : (cert : Certificate) → IsIn anchors cert → StandsAmong places true cert
  pub each_cert : (cert : Certificate) → IsIn bag cert → StandsAmong places false cert
