-- A chain that revocation lists clear is one without lists.
use Rattle.std.proofs.Common.{ℕ, ℤ, List, [], ◌∷◌, Option, None}
use Rattle.sz_x509.specs.Certificate.{Certificate}
use Rattle.sz_chain.specs.Chain.{AreLinked, Chain}
use Rattle.sz_chain.specs.Ways.{IsChained}
use Rattle.sz_chain.specs.declared.place.Place.{Place}
use Rattle.sz_chain.specs.declared.set.PlaceSet.{PlaceSet}

module _ (crls : Option (List (List ℕ))) (when : ℤ) where
  unlisted : (certs : List Certificate) (anchor : Certificate) → AreLinked crls when certs anchor → AreLinked None when certs anchor
  unlisted [] anchor links = tt
  unlisted (cert ∷ above) anchor links =
      (record { named = links.0.named; signed = links.0.signed; cleared = tt }, unlisted above anchor links.1)

  pub without_lists : (certs : List Certificate) (anchor : Certificate) → Chain crls when certs anchor → Chain None when certs anchor
  without_lists certs anchor chain = record {
    few = chain.few;
    signs = chain.signs;
    issuers = chain.issuers;
    links = unlisted certs anchor chain.links;
  }

  pub chained_without_lists : (signers : PlaceSet) (places : List Place) → IsChained crls when signers places → IsChained None when signers places
  chained_without_lists signers places is = record {
    certs = is.certs;
    anchor = is.anchor;
    at = is.at;
    signer = is.signer;
    is_signer = is.is_signer;
    in_set = is.in_set;
    is_lowest = is.is_lowest;
    kind = is.kind;
    are_certs = is.are_certs;
    is_anchor = is.is_anchor;
    chain = without_lists is.certs is.anchor is.chain;
  }
