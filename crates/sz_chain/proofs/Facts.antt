-- What there is, from what the places of certificates tell.
use Rattle.std.proofs.Common.{◌≡◌, ◌<◌, ◌⊎◌, ℕ, ℤ, Bool, true, false, true≢false, cond, List, [], ◌∷◌, length, Option, Some, Contains, refl, sym, ◌∙◌, subst, inl, inr, arith}
use Rattle.std.proofs.lemmas.Option.{same_Some}
use Rattle.std.specs.List.{AllByRecursion}
use Rattle.sz_cms.specs.Message.{Signed, Signer}
use Rattle.sz_chain.specs.Chain.{IsIn, lowest}
use Rattle.sz_chain.specs.Places.{ArePlaces, StandsAmong}
use Rattle.sz_chain.specs.Sets.{AreAt, has}
use Rattle.sz_chain.specs.Ways.{IsChained, is_none}
use Rattle.sz_chain.specs.declared.place.Place.{Place}
use Rattle.sz_chain.specs.declared.set.PlaceSet.{PlaceSet}
use Rattle.sz_x509.specs.Certificate.{Certificate}
use Rattle.sz_x509.specs.View.{view}
use Rattle.sz_chain.specs.Candidates.{AreFitting, FitsOne, VerifiesOne}
use Rattle.sz_chain.specs.SignedBy.{HasCandidate, HasFitting, HasVerified, IsSignedByOne, SignedBy}
use Rattle.sz_chain.specs.Signers.{FitsIdentifier, IsFitting, Verifies}

first : (signers : List Signer) → 0 < length signers → (signer : Signer) × Contains signers signer
first [] some = absurd (omega arith)
first (signer ∷ signers) some = (signer, (0, some, refl))

module _ (signed : Signed) (content : List ℕ) (signers : List Signer) (has_content : signed.content ≡ Some content)
    (fitting : AreFitting signed content signers) where
  -- a fitting signer of the message, whatever its content is called
  among : (other : List ℕ) (signer : Signer) → signed.content ≡ Some other → IsFitting signed other signer → Contains signers signer
  among other signer is fits =
      let same : other ≡ content = same_Some other content (sym is ∙ has_content) in
      (fitting signer).1 (subst (λ (c : List ℕ). IsFitting signed c signer) same fits)

  pub no_fitting : length signers ≡ 0 → HasFitting signed → ⊥
  no_fitting none is =
      let at = among is.content is.signer is.has_content is.is_fitting in omega (arith, at.1)

  pub some_fitting : 0 < length signers → HasFitting signed
  some_fitting some =
      let signer = first signers some in
      record { content = content; signer = signer.0; has_content = has_content; is_fitting = (fitting signer.0).0 signer.1 }

  module _ (bag anchors : List (List ℕ)) (places : List Place) (are : ArePlaces anchors bag places) where
    in_either : (cert : Certificate) (kind : Bool) → IsIn (cond kind anchors bag) cert → IsIn bag cert ⊎ IsIn anchors cert
    in_either cert true is = inr is
    in_either cert false is = inl is

    stands_either : (cert : Certificate) → IsIn bag cert ⊎ IsIn anchors cert → (kind : Bool) × StandsAmong places kind cert
    stands_either cert (inl is) = (false, are.each_cert cert is)
    stands_either cert (inr is) = (true, are.each_anchor cert is)

    -- ---- candidates

    pub candidate : (place : ℕ) (set : PlaceSet) → AreAt places (λ _. FitsOne signers) set → has set place ≡ true → HasCandidate signed bag anchors
    candidate place set tells in_set =
        let told = (tells place).0 in_set in record {
          content = content;
          signer = told.2.signer;
          cert = view told.0.cert;
          has_content = has_content;
          is_fitting = (fitting told.2.signer).0 told.2.is_signer;
          is_cert = in_either (view told.0.cert) told.0.is_anchor (are.each place told.0 told.1);
          fits = told.2.fits;
        }

    pub no_candidate : (set : PlaceSet) → AreAt places (λ _. FitsOne signers) set → ((place : ℕ) → has set place ≡ false) →
        HasCandidate signed bag anchors → ⊥
    no_candidate set tells none is =
        let stands = (stands_either is.cert is.is_cert).1 in
        let in_set = (tells stands.at).1 (
          stands.place,
          stands.is_at,
          record {
            signer = is.signer;
            is_signer = among is.content is.signer is.has_content is.is_fitting;
            fits = subst (λ (c : Certificate). FitsIdentifier is.signer.identifier c) (sym stands.is_cert) is.fits;
          },
        ) in
        true≢false (sym in_set ∙ none stands.at)

    -- ---- signatures that verify

    pub verified : (place : ℕ) (set : PlaceSet) → AreAt places (λ _. VerifiesOne signers content) set → has set place ≡ true →
        HasVerified signed bag anchors
    verified place set tells in_set =
        let told = (tells place).0 in_set in record {
          content = content;
          signer = told.2.signer;
          cert = view told.0.cert;
          has_content = has_content;
          is_fitting = (fitting told.2.signer).0 told.2.is_signer;
          is_cert = in_either (view told.0.cert) told.0.is_anchor (are.each place told.0 told.1);
          fits = told.2.fits;
          verifies = told.2.verifies;
        }

    verifies_at : (other : List ℕ) (signer : Signer) (cert : Certificate) (kind : Bool) → signed.content ≡ Some other → IsFitting signed other signer →
        FitsIdentifier signer.identifier cert → Verifies signer other cert → (stands : StandsAmong places kind cert) → VerifiesOne signers content stands.place
    verifies_at other signer cert kind is fits_digest fits verifies stands = record {
      signer = signer;
      is_signer = among other signer is fits_digest;
      fits = subst (λ (c : Certificate). FitsIdentifier signer.identifier c) (sym stands.is_cert) fits;
      verifies =
          let same : other ≡ content = same_Some other content (sym is ∙ has_content) in
          subst (λ (c : Certificate). Verifies signer content c) (sym stands.is_cert)
          (subst (λ (c : List ℕ). Verifies signer c cert) same verifies);
    }

    pub no_verified : (set : PlaceSet) → AreAt places (λ _. VerifiesOne signers content) set → ((place : ℕ) → has set place ≡ false) →
        HasVerified signed bag anchors → ⊥
    no_verified set tells none is =
        let either = stands_either is.cert is.is_cert in
        let stands = either.1 in
        let one = verifies_at is.content is.signer is.cert either.0 is.has_content is.is_fitting is.fits is.verifies stands in
        let in_set = (tells stands.at).1 (stands.place, stands.is_at, one) in
        true≢false (sym in_set ∙ none stands.at)

    -- ---- chains

    in_kind : (cert : Certificate) (kind : Bool) → StandsAmong places kind cert → IsIn (cond kind anchors bag) cert
    in_kind cert kind stands =
        let is = are.each stands.at stands.place stands.is_at in
        subst (λ (c : Certificate). IsIn (cond kind anchors bag) c) stands.is_cert
        (subst (λ (k : Bool). IsIn (cond k anchors bag) (view stands.place.cert)) stands.kind is)

    all_in : (certs : List Certificate) → AllByRecursion (StandsAmong places false) certs → AllByRecursion (IsIn bag) certs
    all_in [] stand = tt
    all_in (cert ∷ above) stand = (in_kind cert false stand.0, all_in above stand.1)

    all_stand : (certs : List Certificate) → AllByRecursion (IsIn bag) certs → AllByRecursion (StandsAmong places false) certs
    all_stand [] in_bag = tt
    all_stand (cert ∷ above) in_bag = (are.each_cert cert in_bag.0, all_stand above in_bag.1)

    lowest_stands : (certs : List Certificate) (anchor : Certificate) → AllByRecursion (StandsAmong places false) certs → StandsAmong places true anchor →
        StandsAmong places (is_none certs) (lowest certs anchor)
    lowest_stands [] anchor stand stands = stands
    lowest_stands (cert ∷ above) anchor stand stands = stand.0

    module _ (crls : Option (List (List ℕ))) (when : ℤ) (set : PlaceSet) (tells : AreAt places (λ _. VerifiesOne signers content) set) where
      pub signed_from : IsChained crls when set places → SignedBy signed bag anchors crls when content
      signed_from is =
          let told = (tells is.at).0 is.in_set in
          let same : told.0 ≡ is.signer = same_Some told.0 is.signer (sym told.1 ∙ is.is_signer) in
          let one = subst (λ (p : Place). VerifiesOne signers content p) same told.2 in record {
            has_content = has_content;
            signer = one.signer;
            is_fitting = (fitting one.signer).0 one.is_signer;
            certs = is.certs;
            anchor = is.anchor;
            in_bag = all_in is.certs is.are_certs;
            is_anchor = in_kind is.anchor true is.is_anchor;
            chain = is.chain;
            fits = subst (λ (c : Certificate). FitsIdentifier one.signer.identifier c) is.is_lowest one.fits;
            verifies = subst (λ (c : Certificate). Verifies one.signer content c) is.is_lowest one.verifies;
          }

      pub chained_from : IsSignedByOne signed bag anchors crls when → IsChained crls when set places
      chained_from (other, is) =
          let stand = all_stand is.certs is.in_bag in
          let anchor = are.each_anchor is.anchor is.is_anchor in
          let low = lowest_stands is.certs is.anchor stand anchor in
          let one = verifies_at other is.signer (lowest is.certs is.anchor) (is_none is.certs) is.has_content is.is_fitting is.fits is.verifies low in record {
            certs = is.certs;
            anchor = is.anchor;
            at = low.at;
            signer = low.place;
            is_signer = low.is_at;
            in_set = (tells low.at).1 (low.place, low.is_at, one);
            is_lowest = low.is_cert;
            kind = low.kind;
            are_certs = stand;
            is_anchor = anchor;
            chain = is.chain;
          }
