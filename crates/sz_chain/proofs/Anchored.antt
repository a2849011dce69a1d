-- Links up to anchors, round by round.
use Rattle.std.proofs.Common.{◌≡◌, ◌↔◌, ◌<◌, ◌⊎◌, ◌||◌, ◌++◌, ◌+◌, ℕ, zero, suc, ℤ, true, false, true≢false, List, [], ◌∷◌, length, get_or, sym, ◌∙◌, subst, inl, inr, arith}
use Rattle.std.proofs.lemmas.Bool.{cases_Bool, or_cases, or_left, or_right}
use Rattle.std.proofs.lemmas.Option.{none-some}
use Rattle.sz_chain.specs.Links.{AreEmpty, AreInOne, AreLinksBelow, AreMore, HasPlace, IsAnchorAt, IsAnchored, IsInOne, IsLink, IsUnder, Rises}
use Rattle.sz_chain.specs.Sets.{AreAt, At, has}
use Rattle.sz_chain.specs.declared.place.Place.{Place}
use Rattle.sz_chain.specs.declared.set.PlaceSet.{PlaceSet}
use Rattle.sz_chain.proofs.Elements.{at_cases, at_default, at_last, at_left, at_one, at_some, at_within, grows}

-- ---- sets so far

pub empty_more : (links new : List PlaceSet) (n : ℕ) (set : PlaceSet) → AreEmpty n links → ((place : ℕ) → has set place ≡ false) →
    new ≡ links ++ set ∷ [] → length new ≡ n + 1 → AreEmpty (n + 1) new
empty_more links new n set are none e len = record {
  as_many = len;
  each = grows (λ at issuers. (place : ℕ) → has issuers place ≡ false) links new n set e are.as_many are.each none;
}

-- what a set of issuers has once those of the fresh ones are put in that issued the certificate
abbrev pub HasMore : ℤ → List Place → PlaceSet → Place → PlaceSet → PlaceSet → Type 0
HasMore when places fresh cert old new =
    (above : ℕ) → (has new above ≡ true) ↔ ((has old above ≡ true)
    ⊎ ((issuer : Place) × At places above issuer × (IsLink when cert issuer × (has fresh above ≡ true))))

pub put_in : (when : ℤ) (places : List Place) (fresh : PlaceSet) (cert : Place) (old found new : PlaceSet) →
    AreAt places (λ above issuer. IsLink when cert issuer × (has fresh above ≡ true)) found →
    ((place : ℕ) → has new place ≡ (has old place || has found place)) → HasMore when places fresh cert old new
put_in when places fresh cert old found new are put above = (
  λ e. elim (or_cases (has old above) (has found above) (sym (put above) ∙ e)) [
    | inl earlier ↦ inl earlier
    | inr now ↦ inr ((are above).0 now)
  ],
  λ told. put above ∙ elim told [
    | inl earlier ↦ or_left (has old above) (has found above) earlier
    | inr now ↦ or_right (has old above) (has found above) ((are above).1 now)
  ],
)

-- the sets of the certificates so far
abbrev pub AreMoreSoFar : ℤ → List Place → PlaceSet → List PlaceSet → List PlaceSet → Type 0
AreMoreSoFar when places fresh links more =
    (at : ℕ) (new : PlaceSet) → At more at new → (cert : Place) (old : PlaceSet) → At places at cert → At links at old →
    HasMore when places fresh cert old new

pub more_next : (when : ℤ) (places : List Place) (fresh : PlaceSet) (links more new : List PlaceSet) (n : ℕ) (d : Place) (e : PlaceSet) (set : PlaceSet) →
    n < length places → length links ≡ length places → length more ≡ n → HasMore when places fresh (get_or places n d) (get_or links n e) set →
    new ≡ more ++ set ∷ [] → AreMoreSoFar when places fresh links more → AreMoreSoFar when places fresh links new
more_next when places fresh links more new n d e set within as_many len has_more is each =
    grows (λ at s. (cert : Place) (old : PlaceSet) → At places at cert → At links at old → HasMore when places fresh cert old s) more new n set is len each
    (λ cert old here there.
    let p = at_one places n (get_or places n d) cert (at_default places n d within) here in
    let l = at_one links n (get_or links n e) old (at_default links n e (omega (arith, as_many, within))) there in
    subst (λ (x : Place). HasMore when places fresh x old set) p
    (subst (λ (x : PlaceSet). HasMore when places fresh (get_or places n d) x set) l has_more))

-- ---- the places of sets

pub in_none : (all : PlaceSet) → ((place : ℕ) → has all place ≡ false) → AreInOne [] all
in_none all none place = (λ e. absurd (true≢false (sym e ∙ none place)), λ told. absurd (none-some told.1 told.2))

in_more : (links : List PlaceSet) (set : PlaceSet) (place : ℕ) → IsInOne links place → IsInOne (links ++ set ∷ []) place
in_more links set place is = (is.0, is.1, at_left links (set ∷ []) is.0 is.1 is.2, is.3)

in_last : (links : List PlaceSet) (set : PlaceSet) (place : ℕ) → has set place ≡ true → IsInOne (links ++ set ∷ []) place
in_last links set place is = (length links, set, at_last links set, is)

in_either : (links : List PlaceSet) (set : PlaceSet) (place : ℕ) → IsInOne (links ++ set ∷ []) place → IsInOne links place ⊎ (has set place ≡ true)
in_either links set place is =
    elim (at_cases links set is.0 is.1 is.2) [
      | inl earlier ↦ inl (is.0, is.1, earlier, is.3)
      | inr last ↦ inr (subst (λ (s : PlaceSet). has s place ≡ true) (sym last.1) is.3)
    ]

pub in_one_more : (links more : List PlaceSet) (set all new : PlaceSet) → more ≡ links ++ set ∷ [] → AreInOne links all →
    ((place : ℕ) → has new place ≡ (has all place || has set place)) → AreInOne more new
in_one_more links more set all new e are put =
    subst (λ (ls : List PlaceSet). AreInOne ls new) (sym e) (λ place. (
      λ h. elim (or_cases (has all place) (has set place) (sym (put place) ∙ h)) [
        | inl earlier ↦ in_more links set place ((are place).0 earlier)
        | inr last ↦ in_last links set place last
      ],
      λ told. put place ∙ elim (in_either links set place told) [
        | inl earlier ↦ or_left (has all place) (has set place) ((are place).1 earlier)
        | inr last ↦ or_right (has all place) (has set place) last
      ],
    ))

-- ---- rounds

module _ (when : ℤ) (places : List Place) where
  pub anchored_here : (at : ℕ) → IsAnchorAt places at → Rises when places zero at
  unfolding Rises
  anchored_here at is = is

  anchor_here : (at : ℕ) → Rises when places zero at → IsAnchorAt places at
  unfolding Rises
  anchor_here at is = is

  pub rises_on : (n at : ℕ) → IsUnder when places (Rises when places n) at → Rises when places (suc n) at
  unfolding Rises
  rises_on n at is = is

  rises_from : (n at : ℕ) → Rises when places (suc n) at → IsUnder when places (Rises when places n) at
  unfolding Rises
  rises_from n at is = is

  further : (most at : ℕ) → IsAnchored when places most at → IsAnchored when places (most + 1) at
  further most at is = (is.0, omega (arith, is.1), is.2)

  -- So many rounds: the links to what fewer than so many links anchor; what is reached is anchored by fewer than one more;
  -- what is fresh of it includes all that so many links anchor and no fewer.
  pub record IsRound (r : ℕ) (links : List PlaceSet) (reached fresh : PlaceSet) : Type 0 where
    pub linked : AreLinksBelow when places r links
    pub reaches : (at : ℕ) → (has reached at ≡ true) ↔ IsAnchored when places (r + 1) at
    pub anchored : (at : ℕ) → has fresh at ≡ true → IsAnchored when places (r + 1) at
    pub earlier : (at : ℕ) → IsAnchored when places (r + 1) at → (has fresh at ≡ true) ⊎ IsAnchored when places r at

  module _ (links : List PlaceSet) (anchors : PlaceSet) (empty : AreEmpty (length places) links)
      (are : AreAt places (λ _ place. place.is_anchor ≡ true) anchors) where
    is_reached : (at : ℕ) → has anchors at ≡ true → IsAnchored when places (0 + 1) at
    is_reached at e =
        let told = (are at).0 e in
        (0, omega arith, anchored_here at (record { anchor = told.0; is_at = told.1; is_anchor = told.2 }))

    reached_by : (at n : ℕ) → n < 0 + 1 → Rises when places n at → has anchors at ≡ true
    reached_by at zero few rises =
        let is = anchor_here at rises in (are at).1 (is.anchor, is.is_at, is.is_anchor)
    reached_by at (suc n) few rises = absurd (omega (arith, few))

    pub first_round : IsRound 0 links anchors anchors
    first_round = record {
      linked = record {
        as_many = empty.as_many;
        each = λ at cert issuers here there above. (
          λ e. absurd (true≢false (sym e ∙ empty.each at issuers there above)),
          λ told. absurd (omega (arith, told.2.1.1)),
        );
      };
      reaches = λ at. (λ e. is_reached at e, λ told. reached_by at told.0 told.1 told.2);
      anchored = is_reached;
      earlier = λ at told. inl (reached_by at told.0 told.1 told.2);
    }

  module _ (r : ℕ) (links : List PlaceSet) (reached fresh : PlaceSet) (round : IsRound r links reached fresh) (more : List PlaceSet)
      (new after : PlaceSet) (are : AreMore when places fresh links more)
      (beyond : AreAt more (λ at issuers. HasPlace issuers × (has reached at ≡ false)) new)
      (put : (place : ℕ) → has after place ≡ (has reached place || has new place)) where
    linked_on : AreLinksBelow when places (r + 1) more
    linked_on = record {
      as_many = are.as_many;
      each = λ at cert issuers here there above.
          let old = at_some links at (omega (arith, at_within places at cert here, round.linked.as_many)) in
          let tells = are.each at cert old.0 issuers here old.1 there above in
          let before = round.linked.each at cert old.0 here old.1 above in (
            λ e. elim (tells.0 e) [
              | inl earlier ↦ let told = before.0 earlier in (told.0, told.1, (told.2.0, further r above told.2.1))
              | inr now ↦ (now.0, now.1, (now.2.0, round.anchored above now.2.1))
            ],
            λ told. tells.1 (elim (round.earlier above told.2.1) [
              | inl is_fresh ↦ inr (told.0, told.1, (told.2.0, is_fresh))
              | inr earlier ↦ inl (before.1 (told.0, told.1, (told.2.0, earlier)))
            ]),
          );
    }

    new_anchored : (at : ℕ) → has new at ≡ true → IsAnchored when places (r + 1 + 1) at
    new_anchored at e =
        let told = (beyond at).0 e in
        let cert = at_some places at (omega (arith, at_within more at told.0 told.1, are.as_many)) in
        let above = told.2.0.0 in
        let link = (linked_on.each at cert.0 told.0 cert.1 told.1 above).0 told.2.0.1 in
        let by = link.2.1 in (
          suc by.0,
          omega (arith, by.1),
          rises_on by.0 at (record {
            cert = cert.0;
            above = above;
            issuer = link.0;
            is_at = cert.1;
            is_above = link.1;
            link = link.2.0;
            up = by.2;
          }),
        )

    new_or_earlier : (at n : ℕ) → n < r + 1 + 1 → Rises when places n at → (has new at ≡ true) ⊎ IsAnchored when places (r + 1) at
    new_or_earlier at zero few rises = inr (0, omega arith, rises)
    new_or_earlier at (suc n) few rises =
        elim (cases_Bool (has reached at)) [
          | inl is ↦ inr ((round.reaches at).0 is)
          | inr out ↦
              let under = rises_from n at rises in
              let issuers = at_some more at (omega (arith, at_within places at under.cert under.is_at, are.as_many)) in
              let in_set = (linked_on.each at under.cert issuers.0 under.is_at issuers.1 under.above).1
              (under.issuer, under.is_above, (under.link, (n, omega (arith, few), under.up))) in
              inl ((beyond at).1 (issuers.0, issuers.1, ((under.above, in_set), out)))
        ]

    pub next_round : IsRound (r + 1) more after new
    next_round = record {
      linked = linked_on;
      reaches = λ at. (
        λ e. elim (or_cases (has reached at) (has new at) (sym (put at) ∙ e)) [
          | inl earlier ↦ further (r + 1) at ((round.reaches at).0 earlier)
          | inr now ↦ new_anchored at now
        ],
        λ told. put at ∙ elim (new_or_earlier at told.0 told.1 told.2) [
          | inl now ↦ or_right (has reached at) (has new at) now
          | inr earlier ↦ or_left (has reached at) (has new at) ((round.reaches at).1 earlier)
        ],
      );
      anchored = new_anchored;
      earlier = λ at told. new_or_earlier at told.0 told.1 told.2;
    }
