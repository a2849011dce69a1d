-- Strings one after another that are read as certificates or lists, as a loop over references to them goes.
use Rattle.std.proofs.Common.{◌≡◌, ◌≤◌, ◌<◌, ◌+◌, ◌++◌, ℕ, ℤ, Bool, true, false, List, [], ◌∷◌, length, get_or, map, take, Bor, sym, ap, ◌∙◌, subst, arith, append_assoc, length-append}
use Rattle.std.proofs.lemmas.List.{map_more, take_all}
use Rattle.sz_x509.specs.Certificate.{Certificate, CertOf}
use Rattle.sz_x509.specs.CrlView.{list_view}
use Rattle.sz_x509.specs.RevocationList.{CrlOf, RevocationList}
use Rattle.sz_x509.specs.View.{view}
use Rattle.sz_chain.specs.Cleared.{IsCurrent}
use Rattle.sz_chain.specs.Lists.{AreLists}
use Rattle.sz_chain.specs.Places.{AreOf, ArePlaces, issuer_at}
use Rattle.sz_chain.specs.Sets.{AreAt, has}
use Rattle.sz_chain.specs.declared.lists.CurrentList.{CurrentList}
use Rattle.sz_chain.specs.declared.place.Place.{Place}
use Rattle.sz_chain.specs.declared.set.PlaceSet.{PlaceSet}
use Rattle.sz_chain.proofs.Standing.{both_of, none_more, one_more}
use Rattle.sz_chain.proofs.Told.{no_list_more, one_list_more}

-- the strings that references point to
abbrev pub strings : List (Bor (List ℕ)) → List (List ℕ)
strings items = map (λ (one : Bor (List ℕ)). one.now) items

module _ (items : List (Bor (List ℕ))) (i : ℕ) (d : Bor (List ℕ)) (within : i < length items) where
  more : strings (take (i + 1) items) ≡ strings (take i items) ++ (get_or items i d).now ∷ []
  more = map_more (λ (one : Bor (List ℕ)). one.now) items i d within

  -- ---- certificates

  -- what was put last: the certificates among the strings so far
  abbrev pub Added : Bool → List Place → List Place → ℕ → Type 0
  Added is_anchor start now n =
      (added : List Place) × (now ≡ start ++ added) × AreOf is_anchor (strings (take n items)) added × (length added ≤ n)

  pub added_one : (is_anchor : Bool) (start old new : List Place) (place : Place) → place.is_anchor ≡ is_anchor → new ≡ old ++ place ∷ [] →
      CertOf (get_or items i d).now (view place.cert) → ((cert : Certificate) → CertOf (get_or items i d).now cert → view place.cert ≡ cert) →
      Added is_anchor start old i → Added is_anchor start new (i + 1)
  added_one is_anchor start old new place kind e is only earlier = (
    earlier.0 ++ place ∷ [],
    e ∙ ap (λ (xs : List Place). xs ++ place ∷ []) earlier.1 ∙ append_assoc start earlier.0 (place ∷ []),
    subst (λ (s : List (List ℕ)). AreOf is_anchor s (earlier.0 ++ place ∷ [])) (sym more)
        (one_more is_anchor (strings (take i items)) (get_or items i d).now earlier.0 place earlier.2 kind is only),
    omega (arith, length-append earlier.0 (place ∷ []), earlier.3),
  )

  pub added_none : (is_anchor : Bool) (start old new : List Place) → new ≡ old → ((cert : Certificate) → CertOf (get_or items i d).now cert → ⊥) →
      Added is_anchor start old i → Added is_anchor start new (i + 1)
  added_none is_anchor start old new e none earlier = (
    earlier.0,
    e ∙ earlier.1,
    subst (λ (s : List (List ℕ)). AreOf is_anchor s earlier.0) (sym more)
        (none_more is_anchor (strings (take i items)) (get_or items i d).now earlier.0 earlier.2 none),
    omega (arith, earlier.3),
  )

  -- ---- lists

  module _ (when : ℤ) (places : List Place) (wanted : PlaceSet) where
    pub list_one : (old new : List CurrentList) (told : CurrentList) → new ≡ old ++ told ∷ [] → CrlOf (get_or items i d).now (list_view told.list) →
        ((list : RevocationList) → CrlOf (get_or items i d).now list → list_view told.list ≡ list) →
        AreAt places (λ at place. IsCurrent when (issuer_at place) (list_view told.list) × (has wanted at ≡ true)) told.issuers →
        AreLists when (strings (take i items)) places wanted old → AreLists when (strings (take (i + 1) items)) places wanted new
    list_one old new told e is only issuers are =
        subst (λ (l : List CurrentList). AreLists when (strings (take (i + 1) items)) places wanted l) (sym e)
        (subst (λ (s : List (List ℕ)). AreLists when s places wanted (old ++ told ∷ [])) (sym more)
        (one_list_more when places wanted (strings (take i items)) (get_or items i d).now old told are is only issuers))

    pub list_none : (old new : List CurrentList) → new ≡ old → ((list : RevocationList) → CrlOf (get_or items i d).now list → ⊥) →
        AreLists when (strings (take i items)) places wanted old → AreLists when (strings (take (i + 1) items)) places wanted new
    list_none old new e none are =
        subst (λ (l : List CurrentList). AreLists when (strings (take (i + 1) items)) places wanted l) (sym e)
        (subst (λ (s : List (List ℕ)). AreLists when s places wanted old) (sym more)
        (no_list_more when places wanted (strings (take i items)) (get_or items i d).now old are none))

-- all strings were read
pub all_strings : (items : List (Bor (List ℕ))) (n : ℕ) (whole : List (List ℕ)) → strings items ≡ whole → length items ≤ n → strings (take n items) ≡ whole
all_strings items n whole e few = ap strings (take_all n items few) ∙ e

-- the anchors and then the bag
pub places_are : (anchors bag : List (List ℕ)) (start middle end first second : List Place) → start ≡ [] → middle ≡ start ++ first →
    end ≡ middle ++ second → AreOf true anchors first → AreOf false bag second → ArePlaces anchors bag end
places_are anchors bag start middle end first second none e f one other =
    let m : middle ≡ first = e ∙ ap (λ (s : List Place). s ++ first) none in
    let whole : end ≡ first ++ second = f ∙ ap (λ (s : List Place). s ++ second) m in
    subst (λ (p : List Place). ArePlaces anchors bag p) (sym whole) (both_of anchors bag first second one other)

pub places_few : (start middle first : List Place) → start ≡ [] → middle ≡ start ++ first → length first ≤ 32 → length middle ≤ 32
places_few start middle first none e few =
    let m : middle ≡ first = e ∙ ap (λ (s : List Place). s ++ first) none in
    omega (arith, ap length m)

pub one_longer : (old new : List CurrentList) (told : CurrentList) (n : ℕ) → new ≡ old ++ told ∷ [] → length old ≤ n → length new ≤ n + 1
one_longer old new told n e few = omega (arith, ap length e, length-append old (told ∷ []))
