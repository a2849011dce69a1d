-- Signers one after another: those whose digest fits, and the places of certificates that fit one.
use Rattle.std.proofs.Common.{◌≡◌, ◌↔◌, ◌+◌, ◌<◌, ◌≤◌, ◌++◌, ◌||◌, ◌==◌, ℕ, true, false, true≢false, Bor, Option, None, Some, MatchOption, List, [], ◌∷◌, length, get_or, map, take, Contains, refl, sym, ap, ◌∙◌, subst, inl, inr, arith, length-append}
use Rattle.std.proofs.lemmas.List.{map-append, map_more, take_all}
use Rattle.std.proofs.lemmas.List.Elements.{Contains-append_left, Contains-push, Contains-push_cases}
use Rattle.std.proofs.lemmas.Option.{none-some}
use Rattle.std.specs.Option.{option_copied}
use Rattle.sz_cms.specs.Message as message
use Rattle.sz_cms.specs.Message.{Signed}
use Rattle.sz_cms.specs.Signature.{covered_of, DigestFits}
use Rattle.sz_cms.specs.View.{names_of, signed_of, signer_of}
use Rattle.sz_cms.specs.declared.info.Signed as read
use Rattle.sz_cms.specs.declared.signer.Signer.{Signer}
use Rattle.sz_lms.specs.Hss.{HssOk}
use Rattle.sz_chain.specs.Sets.{AreAt, has}
use Rattle.sz_chain.specs.declared.place.Place.{Place}
use Rattle.sz_chain.specs.declared.set.PlaceSet.{PlaceSet}
use Rattle.sz_chain.proofs.Elements.{at_one}
use Rattle.sz_chain.proofs.InSets.{either_at}
use Rattle.sz_x509.specs.View.{view}
use Rattle.sz_chain.specs.Candidates.{AreFitting, FitsOne, VerifiesOne}
use Rattle.sz_chain.specs.SignedBy.{HasSigner}
use Rattle.sz_chain.specs.Signers.{FitsIdentifier, Verifies}

-- ---- signers whose digest fits

-- these are the signers among them whose digest fits
abbrev pub AreAmong : List ℕ → List ℕ → List message.Signer → List message.Signer → Type 0
AreAmong kind content signers fitting =
    (signer : message.Signer) → Contains fitting signer ↔ (Contains signers signer × DigestFits signer kind content)

module _ (kind content : List ℕ) where
  pub among_none : AreAmong kind content [] []
  among_none signer = (λ is. absurd (omega (arith, is.1)), λ is. absurd (omega (arith, is.0.1)))

  -- the next signer's digest fits
  pub among_in : (signers fitting : List message.Signer) (next : message.Signer) → AreAmong kind content signers fitting →
      DigestFits next kind content → AreAmong kind content (signers ++ next ∷ []) (fitting ++ next ∷ [])
  among_in signers fitting next are fits signer = (
    λ is. elim (Contains-push_cases fitting next signer is) [
      | inl earlier ↦
          let told = (are signer).0 earlier in (Contains-append_left signers (next ∷ []) signer told.0, told.1)
      | inr same ↦ (
        subst (λ (s : message.Signer). Contains (signers ++ next ∷ []) s) same (Contains-push signers next),
        subst (λ (s : message.Signer). DigestFits s kind content) same fits,
      )
    ],
    λ is. elim (Contains-push_cases signers next signer is.0) [
      | inl earlier ↦ Contains-append_left fitting (next ∷ []) signer ((are signer).1 (earlier, is.1))
      | inr same ↦ subst (λ (s : message.Signer). Contains (fitting ++ next ∷ []) s) same (Contains-push fitting next)
    ],
  )

  -- the next signer's digest doesn't fit
  pub among_out : (signers fitting : List message.Signer) (next : message.Signer) → AreAmong kind content signers fitting →
      (DigestFits next kind content → ⊥) → AreAmong kind content (signers ++ next ∷ []) fitting
  among_out signers fitting next are none signer = (
    λ is. let told = (are signer).0 is in (Contains-append_left signers (next ∷ []) signer told.0, told.1),
    λ is. elim (Contains-push_cases signers next signer is.0) [
      | inl earlier ↦ (are signer).1 (earlier, is.1)
      | inr same ↦ absurd (none (subst (λ (s : message.Signer). DigestFits s kind content) (sym same) is.1))
    ],
  )

  -- all signers were looked at
  pub among_all : (signed : Signed) (fitting : List message.Signer) → signed.kind ≡ kind → AreAmong kind content signed.signers fitting →
      AreFitting signed content fitting
  among_all signed fitting same are signer = (
    λ is.
        let told = (are signer).0 is in
        record { is_signer = told.0; digest_fits = subst (λ (k : List ℕ). DigestFits signer k content) (sym same) told.1 },
    λ is. (are signer).1 (is.is_signer, subst (λ (k : List ℕ). DigestFits signer k content) same is.digest_fits),
  )

-- ---- places of certificates that fit one of the signers

module _ (places : List Place) where
  -- the places for one signer more
  pub fits_more : (signers : List message.Signer) (next : message.Signer) (earlier one new : PlaceSet) →
      ((place : ℕ) → has new place ≡ (has earlier place || has one place)) → AreAt places (λ _. FitsOne signers) earlier →
      AreAt places (λ _ place. FitsIdentifier next.identifier (view place.cert)) one → AreAt places (λ _. FitsOne (signers ++ next ∷ [])) new
  fits_more signers next earlier one new put are is =
      either_at places (λ _. FitsOne signers) (λ _ place. FitsIdentifier next.identifier (view place.cert)) (λ _. FitsOne (signers ++ next ∷ []))
      earlier one new put are is
      (λ at place told. elim told [
        | inl old ↦ record {
          signer = old.signer;
          is_signer = Contains-append_left signers (next ∷ []) old.signer old.is_signer;
          fits = old.fits;
        }
        | inr this ↦ record { signer = next; is_signer = Contains-push signers next; fits = this }
      ])
      (λ at place told. elim (Contains-push_cases signers next told.signer told.is_signer) [
        | inl old ↦ inl (record { signer = told.signer; is_signer = old; fits = told.fits })
        | inr same ↦ inr (subst (λ (s : message.Signer). FitsIdentifier s.identifier (view place.cert)) (sym same) told.fits)
      ])

  pub verifies_more : (content : List ℕ) (signers : List message.Signer) (next : message.Signer) (earlier one new : PlaceSet) →
      ((place : ℕ) → has new place ≡ (has earlier place || has one place)) → AreAt places (λ _. VerifiesOne signers content) earlier →
      AreAt places (λ _ place. FitsIdentifier next.identifier (view place.cert) × Verifies next content (view place.cert)) one →
      AreAt places (λ _. VerifiesOne (signers ++ next ∷ []) content) new
  verifies_more content signers next earlier one new put are is =
      either_at places (λ _. VerifiesOne signers content)
      (λ _ place. FitsIdentifier next.identifier (view place.cert) × Verifies next content (view place.cert))
      (λ _. VerifiesOne (signers ++ next ∷ []) content) earlier one new put are is
      (λ at place told. elim told [
        | inl old ↦ record {
          signer = old.signer;
          is_signer = Contains-append_left signers (next ∷ []) old.signer old.is_signer;
          fits = old.fits;
          verifies = old.verifies;
        }
        | inr this ↦ record { signer = next; is_signer = Contains-push signers next; fits = this.0; verifies = this.1 }
      ])
      (λ at place told. elim (Contains-push_cases signers next told.signer told.is_signer) [
        | inl old ↦ inl (record { signer = told.signer; is_signer = old; fits = told.fits; verifies = told.verifies })
        | inr same ↦ inr (
          subst (λ (s : message.Signer). FitsIdentifier s.identifier (view place.cert)) (sym same) told.fits,
          subst (λ (s : message.Signer). Verifies s content (view place.cert)) (sym same) told.verifies,
        )
      ])

-- ---- one signer more

module _ (signers : List Signer) (i : ℕ) (d : Signer) (within : i < length signers) where
  more : map signer_of (take (i + 1) signers) ≡ map signer_of (take i signers) ++ signer_of (get_or signers i d) ∷ []
  more = map_more signer_of signers i d within

  -- ---- those whose digest fits

  pub digest_fits : (kind content : List ℕ) (old new : List Signer) → new ≡ old ++ get_or signers i d ∷ [] →
      DigestFits (signer_of (get_or signers i d)) kind content → AreAmong kind content (map signer_of (take i signers)) (map signer_of old) →
      AreAmong kind content (map signer_of (take (i + 1) signers)) (map signer_of new)
  digest_fits kind content old new e fits are =
      let next = signer_of (get_or signers i d) in
      let new_is : map signer_of new ≡ map signer_of old ++ next ∷ [] = ap (map signer_of) e ∙ map-append signer_of old (get_or signers i d ∷ []) in
      subst (λ (s : List message.Signer). AreAmong kind content s (map signer_of new)) (sym more)
      (subst (λ (f : List message.Signer). AreAmong kind content (map signer_of (take i signers) ++ next ∷ []) f) (sym new_is)
      (among_in kind content (map signer_of (take i signers)) (map signer_of old) next are fits))

  pub digest_fails : (kind content : List ℕ) (old new : List Signer) → new ≡ old → (DigestFits (signer_of (get_or signers i d)) kind content → ⊥) →
      AreAmong kind content (map signer_of (take i signers)) (map signer_of old) →
      AreAmong kind content (map signer_of (take (i + 1) signers)) (map signer_of new)
  digest_fails kind content old new e fails are =
      let next = signer_of (get_or signers i d) in
      subst (λ (s : List message.Signer). AreAmong kind content s (map signer_of new)) (sym more)
      (subst (λ (f : List Signer). AreAmong kind content (map signer_of (take i signers) ++ next ∷ []) (map signer_of f)) (sym e)
      (among_out kind content (map signer_of (take i signers)) (map signer_of old) next are fails))

  -- ---- the places

  module _ (places : List Place) (earlier one new : PlaceSet) (put : (place : ℕ) → has new place ≡ (has earlier place || has one place)) where
    pub fits_step : AreAt places (λ _. FitsOne (map signer_of (take i signers))) earlier →
        AreAt places (λ _ place. FitsIdentifier (names_of (get_or signers i d).identifier) (view place.cert)) one →
        AreAt places (λ _. FitsOne (map signer_of (take (i + 1) signers))) new
    fits_step are is =
        subst (λ (s : List message.Signer). AreAt places (λ _. FitsOne s) new) (sym more)
        (fits_more places (map signer_of (take i signers)) (signer_of (get_or signers i d)) earlier one new put are is)

    pub verifies_step : (content : List ℕ) → AreAt places (λ _. VerifiesOne (map signer_of (take i signers)) content) earlier →
        AreAt places (λ _ place. FitsIdentifier (names_of (get_or signers i d).identifier) (view place.cert)
        × Verifies (signer_of (get_or signers i d)) content (view place.cert)) one →
        AreAt places (λ _. VerifiesOne (map signer_of (take (i + 1) signers)) content) new
    verifies_step content are is =
        subst (λ (s : List message.Signer). AreAt places (λ _. VerifiesOne s content) new) (sym more)
        (verifies_more places content (map signer_of (take i signers)) (signer_of (get_or signers i d)) earlier one new put are is)

-- all signers were looked at
pub all_signers : (signers : List Signer) (n : ℕ) → length signers ≤ n → map signer_of (take n signers) ≡ map signer_of signers
all_signers signers n few = ap (map signer_of) (take_all n signers few)

-- ---- signatures of one signer

key_of : (place : Place) → (view place.cert).key ≡ place.cert.key.now
unfolding view
key_of place = refl

pub verified_is : (places : List Place) (signer : Signer) (content bytes : List ℕ) (fitting set : PlaceSet) →
    bytes ≡ covered_of (signer_of signer) content →
    AreAt places (λ _ place. FitsIdentifier (names_of signer.identifier) (view place.cert)) fitting →
    AreAt places (λ at place. (has fitting at ≡ true) × HssOk place.cert.key.now bytes signer.signature.now) set →
    AreAt places (λ _ place. FitsIdentifier (names_of signer.identifier) (view place.cert) × Verifies (signer_of signer) content (view place.cert)) set
verified_is places signer content bytes fitting set e fits verified place = (
  λ is.
      let told = (verified place).0 is in
      let fit = (fits place).0 told.2.0 in
      let same : fit.0 ≡ told.0 = at_one places place fit.0 told.0 fit.1 told.1 in (
        told.0,
        told.1,
        (
          subst (λ (p : Place). FitsIdentifier (names_of signer.identifier) (view p.cert)) same fit.2,
          subst (λ (k : List ℕ). HssOk k (covered_of (signer_of signer) content) signer.signature.now) (sym (key_of told.0))
              (subst (λ (b : List ℕ). HssOk told.0.cert.key.now b signer.signature.now) e told.2.1),
        ),
      ),
  λ is. (verified place).1 (
    is.0,
    is.1,
    (
      (fits place).1 (is.0, is.1, is.2.0),
      subst (λ (b : List ℕ). HssOk is.0.cert.key.now b signer.signature.now) (sym e)
          (subst (λ (k : List ℕ). HssOk k (covered_of (signer_of signer) content) signer.signature.now) (key_of is.0) is.2.1),
    ),
  ),
)

pub length_signers : (signers : List Signer) → 0 < length signers → 0 < length (map signer_of signers)
length_signers [] some = some
length_signers (signer ∷ signers) some = omega arith

pub no_signers : (signers : List Signer) → length signers ≡ 0 → length (map signer_of signers) ≡ 0
no_signers [] none = none
no_signers (signer ∷ signers) none = absurd (omega arith)

-- ---- a message without a signer, and with one

first_of_some : (signers : List Signer) → (length signers == 0) ≡ false → (signer : message.Signer) × Contains (map signer_of signers) signer
first_of_some [] none = absurd (true≢false none)
first_of_some (signer ∷ signers) some = (signer_of signer, (0, omega arith, refl))

pub no_signer : (signed : read.Signed) → length signed.signers.items ≡ 0 → HasSigner (signed_of signed) → ⊥
no_signer signed none is =
    let at = is.is_signer in omega (arith, at.1, no_signers signed.signers.items none)

content_of : (signed : read.Signed) (content : Option (Bor (List ℕ))) → signed.content ≡ content → (length signed.signers.items == 0) ≡ false →
    MatchOption content (HasSigner (signed_of signed) → ⊥) (λ told. HasSigner (signed_of signed) × ((signed_of signed).content ≡ Some told.now))
content_of signed None e some = λ is. absurd (none-some is.content (sym (ap option_copied e) ∙ is.has_content))
content_of signed (Some told) e some =
    let signer = first_of_some signed.signers.items some in
    let is : (signed_of signed).content ≡ Some told.now = ap option_copied e in
    (record { content = told.now; signer = signer.0; has_content = is; is_signer = signer.1 }, is)

pub content_is : (signed : read.Signed) → (length signed.signers.items == 0) ≡ false →
    MatchOption signed.content (HasSigner (signed_of signed) → ⊥)
    (λ told. HasSigner (signed_of signed) × ((signed_of signed).content ≡ Some told.now))
content_is signed some = content_of signed signed.content refl some

pub one_longer : (old new : List Signer) (signer : Signer) (n : ℕ) → new ≡ old ++ signer ∷ [] → length old ≤ n → length new ≤ n + 1
one_longer old new signer n e few = omega (arith, ap length e, length-append old (signer ∷ []))
