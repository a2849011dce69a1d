-- Places under whose keys a signature verifies, one after another; a key that stood before isn't tried again.
use Rattle.std.proofs.Common.{◌≡◌, ◌↔◌, ◌<◌, ◌+◌, ◌||◌, ◌==◌, ℕ, Bool, true, false, true≢false, List, length, get_or, sym, ap, ◌∙◌, subst}
use Rattle.std.proofs.lemmas.Slice.Eq.{bytes_eq-Decides}
use Rattle.std.specs.Prelude.{bytes_eq}
use Rattle.sz_lms.specs.Hss.{HssOk}
use Rattle.sz_chain.specs.Sets.{AreAt, AreFirst, At, has}
use Rattle.sz_chain.specs.declared.place.Place.{Place}
use Rattle.sz_chain.specs.declared.set.PlaceSet.{PlaceSet}
use Rattle.sz_chain.proofs.Elements.{at_default, at_one, at_some}
use Rattle.sz_chain.proofs.InSets.{first_all, first_in, first_out}

pub earlier_is : (places : List Place) (other : ℕ) (d : Place) (key : List ℕ) (same : Bool) → other < length places →
    same ≡ bytes_eq (get_or places other d).cert.key.now key → same ≡ true → (x : Place) × At places other x × (x.cert.key.now ≡ key)
earlier_is places other d key same within tells e =
    (get_or places other d, at_default places other d within, (bytes_eq-Decides (get_or places other d).cert.key.now key).0 (sym tells ∙ e))

module _ (places : List Place) (wanted : PlaceSet) (bytes signature : List ℕ) where
  abbrev pub Verifying : ℕ → Place → Type 0
  Verifying at place = (has wanted at ≡ true) × HssOk place.cert.key.now bytes signature

  -- the key stood at an earlier place
  pub verified_earlier : (verified : PlaceSet) (at other : ℕ) (d : Place) (found : Bool) → at < length places → AreFirst at places Verifying verified →
      found ≡ has verified other →
      (other < at) × (has wanted other ≡ true) × ((x : Place) × At places other x × (x.cert.key.now ≡ (get_or places at d).cert.key.now)) →
      (place : Place) → At places at place → (found ≡ true) ↔ HssOk place.cert.key.now bytes signature
  verified_earlier verified at other d found within told e same place here =
      let x = same.2.0 in
      let key : x.cert.key.now ≡ place.cert.key.now =
      same.2.2 ∙ ap (λ (p : Place). p.cert.key.now) (at_one places at (get_or places at d) place (at_default places at d within) here) in (
        λ known.
            let is = (told other).0 (sym e ∙ known) in
            let this : is.1.0 ≡ x = at_one places other is.1.0 x is.1.1 same.2.1 in
            subst (λ (k : List ℕ). HssOk k bytes signature) (ap (λ (p : Place). p.cert.key.now) this ∙ key) is.1.2.1,
        λ ok. e ∙ (told other).1 (
          same.0,
          (x, same.2.1, (same.1, subst (λ (k : List ℕ). HssOk k bytes signature) (sym key) ok)),
        ),
      )

  -- the key is tried
  pub verified_anew : (at : ℕ) (d : Place) (found : Bool) → at < length places →
      (found ≡ true) ↔ HssOk (get_or places at d).cert.key.now bytes signature → (place : Place) → At places at place →
      (found ≡ true) ↔ HssOk place.cert.key.now bytes signature
  verified_anew at d found within tells place here =
      subst (λ (p : Place). (found ≡ true) ↔ HssOk p.cert.key.now bytes signature)
      (at_one places at (get_or places at d) place (at_default places at d within) here) tells

  module _ (at : ℕ) (within : at < length places) (old joined : PlaceSet) (first : AreFirst at places Verifying old) where
    pub verified_in : (new : PlaceSet) (valid : Bool) → has wanted at ≡ true →
        ((place : Place) → At places at place → (valid ≡ true) ↔ HssOk place.cert.key.now bytes signature) → valid ≡ true →
        ((place : ℕ) → has new place ≡ (place == at || has old place)) → joined ≡ new → AreFirst (at + 1) places Verifying joined
    verified_in new valid wants tells e put same =
        let x = at_some places at within in
        subst (λ (s : PlaceSet). AreFirst (at + 1) places Verifying s) (sym same)
        (first_in places Verifying at x.0 old new first x.1 (wants, (tells x.0 x.1).0 e) put)

    pub verified_out : (valid : Bool) → ((place : Place) → At places at place → (valid ≡ true) ↔ HssOk place.cert.key.now bytes signature) →
        valid ≡ false → joined ≡ old → AreFirst (at + 1) places Verifying joined
    verified_out valid tells e same =
        let x = at_some places at within in
        subst (λ (s : PlaceSet). AreFirst (at + 1) places Verifying s) (sym same)
        (first_out places Verifying at x.0 old first x.1 (λ is. true≢false (sym ((tells x.0 x.1).1 is.1) ∙ e)))

    pub not_wanted : has wanted at ≡ false → joined ≡ old → AreFirst (at + 1) places Verifying joined
    not_wanted e same =
        let x = at_some places at within in
        subst (λ (s : PlaceSet). AreFirst (at + 1) places Verifying s) (sym same)
        (first_out places Verifying at x.0 old first x.1 (λ is. true≢false (sym is.0 ∙ e)))

  pub verified_all : (n : ℕ) (set : PlaceSet) → n ≡ length places → AreFirst n places Verifying set → AreAt places Verifying set
  verified_all n set e first = first_all places Verifying set (subst (λ (m : ℕ). AreFirst m places Verifying set) e first)
