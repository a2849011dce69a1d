-- Revocation lists that read, one string after another, and what they clear.
use Rattle.std.proofs.Common.{◌≡◌, ◌↔◌, ◌<◌, ◌++◌, ℕ, ℤ, true, List, [], ◌∷◌, length, Some, None, refl, sym, subst, inl, inr, arith}
use Rattle.std.proofs.lemmas.List.Elements.{Contains-append_left, Contains-push, Contains-push_cases}
use Rattle.std.proofs.lemmas.Option.{none-some}
use Rattle.sz_x509.specs.Certificate.{Certificate}
use Rattle.sz_x509.specs.CrlView.{list_view}
use Rattle.sz_x509.specs.RevocationList.{CrlOf, RevocationList}
use Rattle.sz_x509.specs.View.{view}
use Rattle.sz_chain.specs.Chain.{most_certs}
use Rattle.sz_chain.specs.Cleared.{IsAmong, IsCleared, IsCurrent, IsRevokedBy}
use Rattle.sz_chain.specs.Links.{AreLinks, IsAnchored, IsLink}
use Rattle.sz_chain.specs.Lists.{AreLists, AreRead, ClearAt, IsOneOf, IsTold}
use Rattle.sz_chain.specs.Places.{issuer_at}
use Rattle.sz_chain.specs.Sets.{AreAt, At, has}
use Rattle.sz_chain.specs.Ways.{AreSteps, IsStep}
use Rattle.sz_chain.specs.declared.lists.CurrentList.{CurrentList}
use Rattle.sz_chain.specs.declared.place.Place.{Place}
use Rattle.sz_chain.specs.declared.set.PlaceSet.{PlaceSet}
use Rattle.sz_chain.proofs.Elements.{at_cases, at_last, at_left, at_one, at_within}
use Rattle.sz_chain.proofs.InSets.{same_at}

module _ (when : ℤ) (places : List Place) (wanted : PlaceSet) where
  pub no_lists : AreLists when [] places wanted []
  no_lists = record {
    each = λ at told here. absurd (none-some told here);
    all = λ list among. absurd (omega (arith, among.1.1));
  }

  among_more : (crls : List (List ℕ)) (bytes : List ℕ) (list : RevocationList) → IsAmong crls list → IsAmong (crls ++ bytes ∷ []) list
  among_more crls bytes list is = (is.0, Contains-append_left crls (bytes ∷ []) is.0 is.1, is.2)

  told_more : (crls : List (List ℕ)) (bytes : List ℕ) (told : CurrentList) → IsTold when crls places wanted told → IsTold when
      (crls ++ bytes ∷ []) places wanted told
  told_more crls bytes told is = record { among = among_more crls bytes (list_view told.list) is.among; issuers = is.issuers }

  one_of_more : (lists : List CurrentList) (told : CurrentList) (list : RevocationList) → IsOneOf lists list → IsOneOf (lists ++ told ∷ []) list
  one_of_more lists told list is =
      record { at = is.at; told = is.told; is_at = at_left lists (told ∷ []) is.at is.told is.is_at; is_list = is.is_list }

  -- a string that reads, its list, and the places for which it is current
  pub one_list_more : (crls : List (List ℕ)) (bytes : List ℕ) (lists : List CurrentList) (told : CurrentList) → AreLists when crls places wanted lists →
      CrlOf bytes (list_view told.list) → ((list : RevocationList) → CrlOf bytes list → list_view told.list ≡ list) →
      AreAt places (λ at place. IsCurrent when (issuer_at place) (list_view told.list) × (has wanted at ≡ true)) told.issuers →
      AreLists when (crls ++ bytes ∷ []) places wanted (lists ++ told ∷ [])
  one_list_more crls bytes lists told are is only issuers = record {
    each = λ at other here. elim (at_cases lists told at other here) [
      | inl earlier ↦ told_more crls bytes other (are.each at other earlier)
      | inr last ↦ subst (λ (t : CurrentList). IsTold when (crls ++ bytes ∷ []) places wanted t) last.1 (record {
        among = (bytes, Contains-push crls bytes, is);
        issuers = issuers;
      })
    ];
    all = λ list among. elim (Contains-push_cases crls bytes among.0 among.1) [
      | inl earlier ↦ one_of_more lists told list (are.all list (among.0, earlier, among.2))
      | inr same ↦ record {
        at = length lists;
        told = told;
        is_at = at_last lists told;
        is_list = only list (subst (λ (b : List ℕ). CrlOf b list) (sym same) among.2);
      }
    ];
  }

  -- a string that doesn't read
  pub no_list_more : (crls : List (List ℕ)) (bytes : List ℕ) (lists : List CurrentList) → AreLists when crls places wanted lists →
      ((list : RevocationList) → CrlOf bytes list → ⊥) → AreLists when (crls ++ bytes ∷ []) places wanted lists
  no_list_more crls bytes lists are none = record {
    each = λ at told here. told_more crls bytes told (are.each at told here);
    all = λ list among. elim (Contains-push_cases crls bytes among.0 among.1) [
      | inl earlier ↦ are.all list (among.0, earlier, among.2)
      | inr same ↦ absurd (none list (subst (λ (b : List ℕ). CrlOf b list) (sym same) among.2))
    ];
  }

  pub lists_read : (crls : List (List ℕ)) (lists : List CurrentList) → AreLists when crls places wanted lists → AreRead lists
  lists_read crls lists are = λ at told here. let among = (are.each at told here).among in (among.0, among.2)

  -- ---- what they clear

  -- the list is current for a place exactly where it is for the certificate there
  current_at : (crls : List (List ℕ)) (told : CurrentList) (at : ℕ) (issuer : Place) → IsTold when crls places wanted told → At places at issuer →
      has told.issuers at ≡ true → IsCurrent when (issuer_at issuer) (list_view told.list)
  current_at crls told at issuer is here in_set =
      let found = (is.issuers at).0 in_set in
      subst (λ (p : Place). IsCurrent when (issuer_at p) (list_view told.list)) (at_one places at found.0 issuer found.1 here) found.2.0

  clear_of : (crls : List (List ℕ)) (lists : List CurrentList) (at : ℕ) (issuer : Place) (cert : Certificate) → AreLists when crls places wanted lists →
      At places at issuer → has wanted at ≡ true → ClearAt lists at cert.serial → IsCleared crls when (issuer_at issuer) cert
  clear_of crls lists at issuer cert are here is_wanted clear = record {
    told =
        let told = clear.told in
        let is = are.each told.0 told.1 told.2 in
        (list_view told.1.list, is.among, current_at crls told.1 at issuer is here told.3);
    not_revoked = λ list among current revoked.
        let one = are.all list among in
        let is = are.each one.at one.told one.is_at in
        let current' = subst (λ (l : RevocationList). IsCurrent when (issuer_at issuer) l) (sym one.is_list) current in
        let revoked' = subst (λ (l : RevocationList). IsRevokedBy l cert.serial) (sym one.is_list) revoked in
        clear.not_revoked one.at one.told one.is_at ((is.issuers at).1 (issuer, here, (current', is_wanted))) revoked';
  }

  cleared_at : (crls : List (List ℕ)) (lists : List CurrentList) (at : ℕ) (issuer : Place) (cert : Certificate) → AreLists when crls places wanted lists →
      At places at issuer → has wanted at ≡ true → IsCleared crls when (issuer_at issuer) cert → ClearAt lists at cert.serial
  cleared_at crls lists at issuer cert are here is_wanted cleared = record {
    told =
        let told = cleared.told in
        let one = are.all told.0 told.1 in
        let is = are.each one.at one.told one.is_at in
        let current' = subst (λ (l : RevocationList). IsCurrent when (issuer_at issuer) l) (sym one.is_list) told.2 in
        (one.at, one.told, one.is_at, (is.issuers at).1 (issuer, here, (current', is_wanted)));
    not_revoked = λ place told there in_set revoked.
        let is = are.each place told there in
        cleared.not_revoked (list_view told.list) is.among (current_at crls told at issuer is here in_set) revoked;
  }

  -- ---- issuers that clear

  pub steps_of_links : (links : List PlaceSet) → AreLinks when places links → AreSteps None when places links
  steps_of_links links are = record {
    as_many = are.as_many;
    each = λ at cert issuers here there.
        same_at places (λ above issuer. IsLink when cert issuer × IsAnchored when places most_certs above) (IsStep None when places cert) issuers
        (λ place issuer is link. record { link = link.0; anchored = link.1; cleared = tt })
        (λ place issuer is step. (step.link, step.anchored))
        (are.each at cert issuers here there);
  }

  serial_of : (cert : Place) → (view cert.cert).serial ≡ cert.cert.serial.now
  unfolding view
  serial_of cert = refl

  pub clearing_steps : (crls : List (List ℕ)) (lists : List CurrentList) (cert : Place) (issuers cleared : PlaceSet) → AreLists when crls places wanted lists →
      AreAt places (λ above issuer. IsLink when cert issuer × IsAnchored when places most_certs above) issuers →
      ((place : ℕ) → (has cleared place ≡ true) ↔ ((place < length places) × (has issuers place ≡ true) × ClearAt lists place cert.cert.serial.now)) →
      ((place : ℕ) → has issuers place ≡ true → has wanted place ≡ true) → AreAt places (IsStep (Some crls) when places cert) cleared
  clearing_steps crls lists cert issuers cleared are links tells covers place = (
    λ e.
        let told = (tells place).0 e in
        let link = (links place).0 told.1 in
        let clear = subst (λ (s : List ℕ). ClearAt lists place s) (sym (serial_of cert)) told.2 in (
          link.0,
          link.1,
          record { link = link.2.0; anchored = link.2.1; cleared = clear_of crls lists place link.0 (view cert.cert) are link.1 (covers place told.1) clear },
        ),
    λ step.
        let issues = (links place).1 (step.0, step.1, (step.2.link, step.2.anchored)) in
        let clear = cleared_at crls lists place step.0 (view cert.cert) are step.1 (covers place issues) step.2.cleared in
        (tells place).1 (
          at_within places place step.0 step.1,
          issues,
          subst (λ (s : List ℕ). ClearAt lists place s) (serial_of cert) clear,
        ),
  )
