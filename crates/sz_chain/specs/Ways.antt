-- The nodes of a search, and the chains that it is to find.
use Rattle.std.specs.Prelude.{◌≡◌, ◌↔◌, ℕ, ℤ, Bool, true, false, if◌then◌else◌, List, [], ◌∷◌, length, Option, None}
use Rattle.std.specs.List.{AllByRecursion}
use Rattle.sz_x509.specs.Certificate.{Certificate}
use Rattle.sz_x509.specs.View.{view}
use Rattle.sz_chain.specs.Chain.{Chain, counts, lowest, MaySign, most_certs}
use Rattle.sz_chain.specs.Cleared.{Cleared}
use Rattle.sz_chain.specs.Links.{IsAnchored, IsLink}
use Rattle.sz_chain.specs.Places.{issuer_at, StandsAmong}
use Rattle.sz_chain.specs.Sets.{AreAt, At, has}
use Rattle.sz_chain.specs.declared.node.Node.{Node}
use Rattle.sz_chain.specs.declared.place.Place.{Place}
use Rattle.sz_chain.specs.declared.set.PlaceSet.{PlaceSet}
use Rattle.sz_chain.specs.declared.way.NoChain.{NoChain}
use Rattle.sz_chain.specs.declared.way.NoChain.TheVariants.{Path, Revoked}

-- the certificate is linked to the issuer at this place, which is anchored, and cleared for it
pub record IsStep (crls : Option (List (List ℕ))) (when : ℤ) (places : List Place) (cert : Place) (above : ℕ)
    (issuer : Place) : Type 0 where
  pub link : IsLink when cert issuer
  pub anchored : IsAnchored when places most_certs above
  pub cleared : Cleared crls when (issuer_at issuer) (view cert.cert)

-- the issuers of each certificate that it is cleared for
pub record AreSteps (crls : Option (List (List ℕ))) (when : ℤ) (places : List Place) (steps : List PlaceSet)
    : Type 0 where
  pub as_many : length steps ≡ length places
  pub each : (at : ℕ) (cert : Place) (issuers : PlaceSet) → At places at cert → At steps at issuers
      → AreAt places (IsStep crls when places cert) issuers

-- the node is what the search has to know of the certificate at this place
pub record IsNodeOf (crls : Option (List (List ℕ))) (when : ℤ) (signers : PlaceSet) (places : List Place) (at : ℕ)
    (place : Place) (node : Node) : Type 0 where
  pub issuers : AreAt places (IsStep crls when places place) node.issuers
  pub limit : node.limit ≡ (if place.is_anchor then None else (view place.cert).restrictions.path_len)
  pub counted : node.is_counted ≡ counts (view place.cert)
  pub is_anchor : node.is_anchor ≡ place.is_anchor
  pub starts : (node.is_start ≡ true) ↔ ((has signers at ≡ true) × MaySign when (view place.cert))

-- the nodes of the certificates, place by place
pub record AreNodes (crls : Option (List (List ℕ))) (when : ℤ) (signers : PlaceSet) (places : List Place)
    (nodes : List Node) : Type 0 where
  pub as_many : length nodes ≡ length places
  pub each : (at : ℕ) (place : Place) (node : Node) → At places at place → At nodes at node
      → IsNodeOf crls when signers places at place node

abbrev pub is_none : List Certificate → Bool
is_none [] = true
is_none (cert ∷ above) = false

-- from a certificate whose place is in the set a chain leads up to an anchor, over certificates at places; it is an
-- anchor itself where the chain has no other
pub record IsChained (crls : Option (List (List ℕ))) (when : ℤ) (signers : PlaceSet) (places : List Place)
    : Type 0 where
  pub certs : List Certificate
  pub anchor : Certificate
  pub at : ℕ
  pub signer : Place
  pub is_signer : At places at signer
  pub in_set : has signers at ≡ true
  pub is_lowest : view signer.cert ≡ lowest certs anchor
  pub kind : signer.is_anchor ≡ is_none certs
  pub are_certs : AllByRecursion (StandsAmong places false) certs
  pub is_anchor : StandsAmong places true anchor
  pub chain : Chain crls when certs anchor

-- why no such chain leads up to an anchor: there is none even where no lists are asked, or there is only then one
abbrev pub IsUnchained : Option (List (List ℕ)) → ℤ → PlaceSet → List Place → NoChain → Type 0
IsUnchained crls when signers places Path = IsChained None when signers places → ⊥
IsUnchained crls when signers places Revoked =
    IsChained None when signers places × (IsChained crls when signers places → ⊥)
