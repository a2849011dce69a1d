-- Certificates at places, and what they issue by.
use Rattle.std.proofs.Common.{◌≡◌, ◌++◌, ℕ, Bool, true, false, cond, List, [], ◌∷◌, length, None, sym, ap, ◌∙◌, subst, inl, inr, arith}
use Rattle.std.proofs.lemmas.List.Elements.{Contains-append_left, Contains-push, Contains-push_cases}
use Rattle.std.proofs.lemmas.Option.{none-some}
use Rattle.sz_x509.specs.Certificate.{Certificate, CertOf}
use Rattle.sz_x509.specs.View.{view}
use Rattle.sz_chain.specs.Chain.{IsIn}
use Rattle.sz_chain.specs.Issuer.{anchor_of, Issuer, issuer_of}
use Rattle.sz_chain.specs.Places.{AreOf, ArePlaces, issuer_at, StandsAmong}
use Rattle.sz_chain.specs.declared.place.Place.{Place}
use Rattle.sz_chain.proofs.Elements.{at_cases, at_either, at_last, at_left, at_right}

issuer_with : Place → Bool → Issuer
issuer_with place is_anchor = record {
  name = (view place.cert).subject;
  key = (view place.cert).key;
  usage = cond is_anchor None (view place.cert).restrictions.usage;
}

-- an anchor issues as one
pub as_anchor : (place : Place) (cert : Certificate) → place.is_anchor ≡ true → view place.cert ≡ cert → issuer_at place ≡ anchor_of cert
unfolding issuer_with
as_anchor place cert kind is = ap (issuer_with place) kind ∙ ap anchor_of is

-- another certificate issues as itself
pub as_issuer : (place : Place) (cert : Certificate) → place.is_anchor ≡ false → view place.cert ≡ cert → issuer_at place ≡ issuer_of cert
unfolding issuer_with
as_issuer place cert kind is = ap (issuer_with place) kind ∙ ap issuer_of is

-- ---- certificates that read, one string after another

pub none_of : (is_anchor : Bool) → AreOf is_anchor [] []
none_of is_anchor = record {
  each = λ at place here. absurd (none-some place here);
  all = λ cert is. absurd (omega (arith, is.1.1));
}

stands_left : (places : List Place) (place : Place) (is_anchor : Bool) (cert : Certificate) → StandsAmong places is_anchor cert →
    StandsAmong (places ++ place ∷ []) is_anchor cert
stands_left places place is_anchor cert is = record {
  at = is.at;
  place = is.place;
  is_at = at_left places (place ∷ []) is.at is.place is.is_at;
  kind = is.kind;
  is_cert = is.is_cert;
}

in_more : (certs : List (List ℕ)) (bytes : List ℕ) (cert : Certificate) → IsIn certs cert → IsIn (certs ++ bytes ∷ []) cert
in_more certs bytes cert is = (is.0, Contains-append_left certs (bytes ∷ []) is.0 is.1, is.2)

-- a string that reads, and its certificate
pub one_more : (is_anchor : Bool) (certs : List (List ℕ)) (bytes : List ℕ) (places : List Place) (place : Place) → AreOf is_anchor certs places →
    place.is_anchor ≡ is_anchor → CertOf bytes (view place.cert) →
    ((cert : Certificate) → CertOf bytes cert → view place.cert ≡ cert) → AreOf is_anchor (certs ++ bytes ∷ []) (places ++ place ∷ [])
one_more is_anchor certs bytes places place are kind is only = record {
  each = λ at other here. elim (at_cases places place at other here) [
    | inl earlier ↦ let told = are.each at other earlier in (told.0, in_more certs bytes (view other.cert) told.1)
    | inr last ↦ (
      ap (λ (p : Place). p.is_anchor) (sym last.1) ∙ kind,
      (bytes, Contains-push certs bytes, subst (λ (p : Place). CertOf bytes (view p.cert)) last.1 is),
    )
  ];
  all = λ cert among. elim (Contains-push_cases certs bytes among.0 among.1) [
    | inl earlier ↦ stands_left places place is_anchor cert (are.all cert (among.0, earlier, among.2))
    | inr same ↦ record {
      at = length places;
      place = place;
      is_at = at_last places place;
      kind = kind;
      is_cert = only cert (subst (λ (b : List ℕ). CertOf b cert) (sym same) among.2);
    }
  ];
}

-- a string that doesn't read
pub none_more : (is_anchor : Bool) (certs : List (List ℕ)) (bytes : List ℕ) (places : List Place) → AreOf is_anchor certs places →
    ((cert : Certificate) → CertOf bytes cert → ⊥) → AreOf is_anchor (certs ++ bytes ∷ []) places
none_more is_anchor certs bytes places are none = record {
  each = λ at place here. let told = are.each at place here in (told.0, in_more certs bytes (view place.cert) told.1);
  all = λ cert among. elim (Contains-push_cases certs bytes among.0 among.1) [
    | inl earlier ↦ are.all cert (among.0, earlier, among.2)
    | inr same ↦ absurd (none cert (subst (λ (b : List ℕ). CertOf b cert) (sym same) among.2))
  ];
}

-- ---- the anchors and then the bag

among_kind : (anchors bag : List (List ℕ)) (is_anchor : Bool) (cert : Certificate) → IsIn (cond is_anchor anchors bag) cert →
    (kind : Bool) → kind ≡ is_anchor → IsIn (cond kind anchors bag) cert
among_kind anchors bag is_anchor cert is kind same = subst (λ (k : Bool). IsIn (cond k anchors bag) cert) (sym same) is

pub both_of : (anchors bag : List (List ℕ)) (first second : List Place) → AreOf true anchors first → AreOf false bag second →
    ArePlaces anchors bag (first ++ second)
both_of anchors bag first second one other = record {
  each = λ at place here. elim (at_either first second at place here) [
    | inl left ↦ let told = one.each at place left in among_kind anchors bag true (view place.cert) told.1 place.is_anchor told.0
    | inr right ↦
        let told = other.each right.0 place right.1 in
        among_kind anchors bag false (view place.cert) told.1 place.is_anchor told.0
  ];
  each_anchor = λ cert is. let stands = one.all cert is in record {
    at = stands.at;
    place = stands.place;
    is_at = at_left first second stands.at stands.place stands.is_at;
    kind = stands.kind;
    is_cert = stands.is_cert;
  };
  each_cert = λ cert is.
      let stands = other.all cert is in
      let right = at_right first second stands.at stands.place stands.is_at in record {
        at = right.0;
        place = stands.place;
        is_at = right.1;
        kind = stands.kind;
        is_cert = stands.is_cert;
      };
}
