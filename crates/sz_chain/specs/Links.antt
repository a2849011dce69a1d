-- Which of the certificates at places issued which, path lengths and revocation lists aside.
use Rattle.std.specs.Prelude.{◌≡◌, ◌⊎◌, ◌↔◌, ◌<◌, ℕ, zero, suc, ℤ, true, false, List, length}
use Rattle.sz_lms.specs.Hss.{HssOk}
use Rattle.sz_x509.specs.View.{view}
use Rattle.sz_chain.specs.Chain.{IsAuthority, IsValidAt, most_certs}
use Rattle.sz_chain.specs.Places.{issuer_at}
use Rattle.sz_chain.specs.Sets.{AreAt, At, has}
use Rattle.sz_chain.specs.declared.place.Place.{Place}
use Rattle.sz_chain.specs.declared.set.PlaceSet.{PlaceSet}

-- the certificate names this issuer, which is an anchor or may issue certificates at the time
pub record NamesIssuer (when : ℤ) (cert issuer : Place) : Type 0 where
  pub named : (view cert.cert).issuer ≡ (issuer_at issuer).name
  pub may_issue : (issuer.is_anchor ≡ true) ⊎ IsAuthority when (view issuer.cert)

-- the certificate, which is no anchor and is valid at the time, names this issuer and is signed with its key
pub record IsLink (when : ℤ) (cert issuer : Place) : Type 0 where
  pub no_anchor : cert.is_anchor ≡ false
  pub valid : IsValidAt when (view cert.cert)
  pub names : NamesIssuer when cert issuer
  pub signed : HssOk (issuer_at issuer).key (view cert.cert).tbs (view cert.cert).signature

-- ---- issuers from which links lead up to an anchor

-- an anchor stands at the place
pub record IsAnchorAt (places : List Place) (at : ℕ) : Type 0 where
  pub anchor : Place
  pub is_at : At places at anchor
  pub is_anchor : anchor.is_anchor ≡ true

-- a link leads from the certificate at the place up to one of these
pub record IsUnder (when : ℤ) (places : List Place) (Above : ℕ → Type 0) (at : ℕ) : Type 0 where
  pub cert : Place
  pub above : ℕ
  pub issuer : Place
  pub is_at : At places at cert
  pub is_above : At places above issuer
  pub link : IsLink when cert issuer
  pub up : Above above

-- so many links, one after another, lead from the place up to an anchor
unfoldable pub Rises : ℤ → List Place → ℕ → ℕ → Type 0
Rises when places zero at = IsAnchorAt places at
Rises when places (suc n) at = IsUnder when places (Rises when places n) at

-- fewer than so many links lead up to an anchor, none from an anchor itself
abbrev pub IsAnchored : ℤ → List Place → ℕ → ℕ → Type 0
IsAnchored when places most at = (n : ℕ) × (n < most) × Rises when places n at

-- the sets of those issuers of each certificate that are anchored by fewer than so many links
pub record AreLinksBelow (when : ℤ) (places : List Place) (most : ℕ) (links : List PlaceSet) : Type 0 where
  pub as_many : length links ≡ length places
  pub each : (at : ℕ) (cert : Place) (issuers : PlaceSet) → At places at cert → At links at issuers
      → AreAt places (λ above issuer. IsLink when cert issuer × IsAnchored when places most above) issuers

-- The links that a chain may have: it has at most eight certificates, so that fewer than eight links lead from each
-- issuer up to its anchor.
abbrev pub AreLinks : ℤ → List Place → List PlaceSet → Type 0
AreLinks when places links = AreLinksBelow when places most_certs links

-- ---- one round of the search for them

-- the sets with those issuers too that are in the set
pub record AreMore (when : ℤ) (places : List Place) (fresh : PlaceSet) (links more : List PlaceSet) : Type 0 where
  pub as_many : length more ≡ length places
  pub each : (at : ℕ) (cert : Place) (old new : PlaceSet) → At places at cert → At links at old → At more at new
      → (above : ℕ) → (has new above ≡ true) ↔ ((has old above ≡ true)
      ⊎ ((issuer : Place) × At places above issuer × (IsLink when cert issuer × (has fresh above ≡ true))))

-- some place is in the set
abbrev pub HasPlace : PlaceSet → Type 0
HasPlace set = (place : ℕ) × (has set place ≡ true)

-- the place is in one of these sets
abbrev pub IsInOne : List PlaceSet → ℕ → Type 0
IsInOne links place = (at : ℕ) × (issuers : PlaceSet) × At links at issuers × (has issuers place ≡ true)

-- the places of these sets, and no others
abbrev pub AreInOne : List PlaceSet → PlaceSet → Type 0
AreInOne links all = (place : ℕ) → (has all place ≡ true) ↔ IsInOne links place

-- no place is in any of these sets
pub record AreEmpty (count : ℕ) (links : List PlaceSet) : Type 0 where
  pub as_many : length links ≡ count
  pub each : (at : ℕ) (issuers : PlaceSet) → At links at issuers → (place : ℕ) → has issuers place ≡ false
