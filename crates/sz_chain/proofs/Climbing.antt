-- Chains of certificates and ways of the search: where there is one there is the other.
use Rattle.std.proofs.Common.{◌≡◌, ◌≤◌, ◌⊎◌, ◌+◌, ℕ, zero, suc, ℤ, Bool, true, false, cond, List, [], ◌∷◌, length, Option, None, refl, sym, ap, ◌∙◌, subst, inl, inr, arith}
use Rattle.std.proofs.lemmas.Bool.{true≢false}
use Rattle.std.specs.List.{AllByRecursion}
use Rattle.sz_x509.specs.Certificate.{Certificate}
use Rattle.sz_x509.specs.View.{view}
use Rattle.sz_chain.specs.Chain.{AreIssuers, AreLinked, Chain, counts, IsAuthority, IsIssuedBy, IsValidAt, IsWithin, lowest, MaySign, most_certs, one_if}
use Rattle.sz_chain.specs.Issuer.{anchor_of, Issuer, issuer_of}
use Rattle.sz_chain.specs.Links.{IsAnchored, IsLink, Rises}
use Rattle.sz_chain.specs.Places.{issuer_at, StandsAmong}
use Rattle.sz_chain.specs.Search.{Arrives, Climbs, HasWay, Reaches}
use Rattle.sz_chain.specs.Sets.{At, has}
use Rattle.sz_chain.specs.Ways.{AreNodes, IsChained, is_none, IsNodeOf, IsStep}
use Rattle.sz_chain.specs.declared.node.Node.{Node}
use Rattle.sz_chain.specs.declared.place.Place.{Place}
use Rattle.sz_chain.specs.declared.set.PlaceSet.{PlaceSet}
use Rattle.sz_chain.proofs.Anchored.{anchored_here, rises_on}
use Rattle.sz_chain.proofs.Elements.{at_one, at_some, at_within}
use Rattle.sz_chain.proofs.Rows.{begins, begun, comes_from, goes_on}
use Rattle.sz_chain.proofs.Standing.{as_anchor, as_issuer}

module _ (crls : Option (List (List ℕ))) (when : ℤ) (signers : PlaceSet) (places : List Place) (nodes : List Node)
    (are : AreNodes crls when signers places nodes) where
  -- a certificate at a place, and its node
  record Pair (at : ℕ) (place : Place) (node : Node) : Type 0 where
    is_place : At places at place
    is_node : At nodes at node
    is : IsNodeOf crls when signers places at place node

  node_at : (at : ℕ) (place : Place) → At places at place → (node : Node) × Pair at place node
  node_at at place here =
      let some = at_some nodes at (omega (arith, at_within places at place here, are.as_many)) in
      (some.0, record { is_place = here; is_node = some.1; is = are.each at place some.0 here some.1 })

  place_at : (at : ℕ) (node : Node) → At nodes at node → (place : Place) × Pair at place node
  place_at at node here =
      let some = at_some places at (omega (arith, at_within nodes at node here, are.as_many)) in
      (some.0, record { is_place = some.1; is_node = here; is = are.each at some.0 node some.1 here })

  -- ---- from a chain to a way

  -- a certificate is issued by what stands at a place, so its node has that place among its issuers
  by_upper : (lower upper : Place) (issuer : Issuer) → issuer_at upper ≡ issuer → IsIssuedBy crls when issuer (view lower.cert) →
      IsIssuedBy crls when (issuer_at upper) (view lower.cert)
  by_upper lower upper issuer same is = subst (λ (i : Issuer). IsIssuedBy crls when i (view lower.cert)) (sym same) is

  link_up : (lower upper : Place) (issuer : Issuer) → lower.is_anchor ≡ false → IsValidAt when (view lower.cert) → issuer_at upper ≡ issuer →
      (upper.is_anchor ≡ true) ⊎ IsAuthority when (view upper.cert) → IsIssuedBy crls when issuer (view lower.cert) → IsLink when lower upper
  link_up lower upper issuer kind valid same may is =
      let by = by_upper lower upper issuer same is in
      record { no_anchor = kind; valid = valid; names = record { named = by.named; may_issue = may }; signed = by.signed }

  step_up : (lower : Place) (above : ℕ) (upper : Place) (issuer : Issuer) → lower.is_anchor ≡ false → IsValidAt when (view lower.cert) →
      issuer_at upper ≡ issuer → (upper.is_anchor ≡ true) ⊎ IsAuthority when (view upper.cert) → IsIssuedBy crls when issuer (view lower.cert) →
      IsAnchored when places most_certs above → IsStep crls when places lower above upper
  step_up lower above upper issuer kind valid same may is anchored = record {
    link = link_up lower upper issuer kind valid same may is;
    anchored = anchored;
    cleared = (by_upper lower upper issuer same is).cleared;
  }

  -- so many links lead from a certificate of a chain up to its anchor
  rises : (anchor : Certificate) → StandsAmong places true anchor → (above : List Certificate) (k at : ℕ) (place : Place) (cert : Certificate) →
      At places at place → place.is_anchor ≡ false → IsValidAt when (view place.cert) → view place.cert ≡ cert →
      AreLinked crls when (cert ∷ above) anchor → AreIssuers when k above → AllByRecursion (StandsAmong places false) above →
      Rises when places (suc (length above)) at
  rises anchor stands [] k at place cert here kind valid is links issuers among =
      let issued = subst (λ (c : Certificate). IsIssuedBy crls when (anchor_of anchor) c) (sym is) links.0 in
      rises_on when places 0 at (record {
        cert = place;
        above = stands.at;
        issuer = stands.place;
        is_at = here;
        is_above = stands.is_at;
        link = link_up place stands.place (anchor_of anchor) kind valid (as_anchor stands.place anchor stands.kind stands.is_cert) (inl stands.kind) issued;
        up = anchored_here when places stands.at (record { anchor = stands.place; is_at = stands.is_at; is_anchor = stands.kind });
      })
  rises anchor stands (issuer ∷ above) k at place cert here kind valid is links issuers among =
      let here' = among.0 in
      let issued = subst (λ (c : Certificate). IsIssuedBy crls when (issuer_of issuer) c) (sym is) links.0 in
      let may = subst (λ (c : Certificate). IsAuthority when c) (sym here'.is_cert) issuers.0 in
      rises_on when places (suc (length above)) at (record {
        cert = place;
        above = here'.at;
        issuer = here'.place;
        is_at = here;
        is_above = here'.is_at;
        link = link_up place here'.place (issuer_of issuer) kind valid (as_issuer here'.place issuer here'.kind here'.is_cert) (inr may) issued;
        up = rises anchor stands above _ here'.at here'.place issuer here'.is_at here'.kind may.valid here'.is_cert links.1 issuers.2 among.1;
      })

  no_limit : (place : Place) (limit : Option ℕ) (k : ℕ) → place.is_anchor ≡ true →
      limit ≡ cond place.is_anchor None (view place.cert).restrictions.path_len → IsWithin limit k
  no_limit place limit k kind e =
      let none : limit ≡ None = e ∙ ap (λ (b : Bool). cond {A = Option ℕ} b None (view place.cert).restrictions.path_len) kind in
      subst (λ (l : Option ℕ). IsWithin l k) (sym none) tt

  has_limit : (place : Place) (cert : Certificate) (limit : Option ℕ) → place.is_anchor ≡ false → view place.cert ≡ cert →
      limit ≡ cond place.is_anchor None (view place.cert).restrictions.path_len → limit ≡ cert.restrictions.path_len
  has_limit place cert limit kind is e =
      e ∙ ap (λ (b : Bool). cond {A = Option ℕ} b None (view place.cert).restrictions.path_len) kind
      ∙ ap (λ (c : Certificate). c.restrictions.path_len) is

  -- over one issuer more
  on : (n before below at : ℕ) (lower upper : Place) (low high : Node) (cert : Certificate) → Pair below lower low → Pair at upper high →
      Reaches nodes n before below → IsStep crls when places lower at upper → IsWithin high.limit before →
      Reaches nodes (suc n) (before + one_if high.is_counted) at
  on n before below at lower upper low high cert l h reached step within = goes_on nodes n _ at (record {
    before = before;
    below = below;
    lower = low;
    upper = high;
    is_lower = l.is_node;
    is_upper = h.is_node;
    reached = reached;
    climbs = record {
      issued = (l.is.issuers at).1 (upper, h.is_place, step);
      within = within;
      counted = refl;
    };
  })

  climb : (anchor : Certificate) → StandsAmong places true anchor → (above : List Certificate) (n k at : ℕ) (place : Place) (cert : Certificate) →
      At places at place → place.is_anchor ≡ false → IsValidAt when (view place.cert) → view place.cert ≡ cert → Reaches nodes n k at →
      AreLinked crls when (cert ∷ above) anchor →
      AreIssuers when k above → AllByRecursion (StandsAmong places false) above → n + 1 + length above ≤ most_certs →
      (m : ℕ) × (m ≡ n + 1 + length above) × Arrives nodes m
  climb anchor stands [] n k at place cert here kind valid is reached links issuers among few =
      let low = node_at at place here in
      let high = node_at stands.at stands.place stands.is_at in
      let issued = subst (λ (c : Certificate). IsIssuedBy crls when (anchor_of anchor) c) (sym is) links.0 in
      let top = anchored_here when places stands.at (record { anchor = stands.place; is_at = stands.is_at; is_anchor = stands.kind }) in
      let step = step_up place stands.at stands.place (anchor_of anchor) kind valid (as_anchor stands.place anchor stands.kind stands.is_cert)
      (inl stands.kind) issued (0, omega arith, top) in
      let within = no_limit stands.place high.0.limit k stands.kind high.1.is.limit in (
        suc n,
        omega arith,
        record {
          count = k + one_if high.0.is_counted;
          at = stands.at;
          anchor = high.0;
          is_node = high.1.is_node;
          is_anchor = high.1.is.is_anchor ∙ stands.kind;
          reached = on n k at stands.at place stands.place low.0 high.0 cert low.1 high.1 reached step within;
        },
      )
  climb anchor stands (issuer ∷ above) n k at place cert here kind valid is reached links issuers among few =
      let here' = among.0 in
      let low = node_at at place here in
      let high = node_at here'.at here'.place here'.is_at in
      let issued = subst (λ (c : Certificate). IsIssuedBy crls when (issuer_of issuer) c) (sym is) links.0 in
      let may = subst (λ (c : Certificate). IsAuthority when c) (sym here'.is_cert) issuers.0 in
      let up = rises anchor stands above _ here'.at here'.place issuer here'.is_at here'.kind may.valid here'.is_cert links.1 issuers.2 among.1 in
      let step = step_up place here'.at here'.place (issuer_of issuer) kind valid (as_issuer here'.place issuer here'.kind here'.is_cert) (inr may) issued
      (suc (length above), omega (arith, few), up) in
      let limit = has_limit here'.place issuer high.0.limit here'.kind here'.is_cert high.1.is.limit in
      let within = subst (λ (l : Option ℕ). IsWithin l k) (sym limit) issuers.1 in
      let counted : high.0.is_counted ≡ counts issuer = high.1.is.counted ∙ ap counts here'.is_cert in
      let reached' = on n k at here'.at place here'.place low.0 high.0 cert low.1 high.1 reached step within in
      let reached'' = subst (λ (b : Bool). Reaches nodes (suc n) (k + one_if b) here'.at) counted reached' in
      let rest = climb anchor stands above (suc n) (k + one_if (counts issuer)) here'.at here'.place issuer here'.is_at here'.kind may.valid here'.is_cert
      reached'' links.1 issuers.2 among.1 (omega (arith, few)) in
      (rest.0, omega (arith, rest.1), rest.2)

  start_at : (at : ℕ) (place : Place) (node : Node) → Pair at place node → has signers at ≡ true → MaySign when (view place.cert) →
      Reaches nodes 0 0 at
  start_at at place node p in_set signs = begins nodes 0 at (record {
    node = node;
    is_node = p.is_node;
    is_start = p.is.starts.1 (in_set, signs);
    counted = refl;
  })

  way_of : (certs : List Certificate) (anchor : Certificate) (at : ℕ) (signer : Place) → At places at signer → has signers at ≡ true →
      view signer.cert ≡ lowest certs anchor → signer.is_anchor ≡ is_none certs → AllByRecursion (StandsAmong places false) certs →
      StandsAmong places true anchor → Chain crls when certs anchor → HasWay nodes
  way_of [] anchor at signer here in_set is kind among stands chain =
      let low = node_at at signer here in
      let signs = subst (λ (c : Certificate). MaySign when c) (sym is) chain.signs in (
        0,
        omega arith,
        record {
          count = 0;
          at = at;
          anchor = low.0;
          is_node = low.1.is_node;
          is_anchor = low.1.is.is_anchor ∙ kind;
          reached = start_at at signer low.0 low.1 in_set signs;
        },
      )
  way_of (cert ∷ above) anchor at signer here in_set is kind among stands chain =
      let low = node_at at signer here in
      let signs = subst (λ (c : Certificate). MaySign when c) (sym is) chain.signs in
      let begun = start_at at signer low.0 low.1 in_set signs in
      let rest = climb anchor stands above 0 0 at signer cert here kind signs.valid is begun chain.links chain.issuers among.1 (omega (arith, chain.few)) in
      (rest.0, omega (arith, rest.1, chain.few), rest.2)

  pub way_from_chain : IsChained crls when signers places → HasWay nodes
  way_from_chain is =
      way_of is.certs is.anchor is.at is.signer is.is_signer is.in_set is.is_lowest is.kind is.are_certs is.is_anchor is.chain

  -- ---- from a way to a chain

  -- what a step says, over the certificates
  issued_by : (lower : Place) (above : ℕ) (upper : Place) (issuer : Issuer) → issuer_at upper ≡ issuer → IsStep crls when places lower above upper →
      IsIssuedBy crls when issuer (view lower.cert)
  issued_by lower above upper issuer same step =
      subst (λ (i : Issuer). IsIssuedBy crls when i (view lower.cert)) same (record {
        named = step.link.names.named;
        signed = step.link.signed;
        cleared = step.cleared;
      })

  authority : (place : Place) → place.is_anchor ≡ false → (place.is_anchor ≡ true) ⊎ IsAuthority when (view place.cert) → IsAuthority when (view place.cert)
  authority place kind (inl anchor) = absurd (true≢false (sym anchor ∙ kind))
  authority place kind (inr may) = may

  -- the certificate below, which stands at a place too
  record Below (n before : ℕ) (upper : Place) (high : Node) : Type 0 where
    at : ℕ
    place : Place
    here : At places at place
    kind : place.is_anchor ≡ false
    above : ℕ
    step : IsStep crls when places place above upper
    reached : Reaches nodes n before at
    within : IsWithin high.limit before

  below_of : (n k at : ℕ) (place : Place) (node : Node) → Pair at place node → Reaches nodes (suc n) k at →
      (before : ℕ) × (k ≡ before + one_if node.is_counted) × Below n before place node
  below_of n k at place node p reached =
      let from = comes_from nodes n k at reached in
      let low = place_at from.below from.lower from.is_lower in
      let same : from.upper ≡ node = at_one nodes at from.upper node from.is_upper p.is_node in
      let climbs = subst (λ (x : Node). Climbs from.lower at x from.before k) same from.climbs in
      let told = (low.1.is.issuers at).0 climbs.issued in
      let step = subst (λ (x : Place). IsStep crls when places low.0 at x) (at_one places at told.0 place told.1 p.is_place) told.2 in (
        from.before,
        climbs.counted,
        record {
          at = from.below;
          place = low.0;
          here = low.1.is_place;
          kind = step.link.no_anchor;
          above = at;
          step = step;
          reached = from.reached;
          within = climbs.within;
        },
      )

  unwind : (anchor : Certificate) → StandsAmong places true anchor → (n k at : ℕ) (place : Place) (above : List Certificate) → At places at place →
      place.is_anchor ≡ false → Reaches nodes n k at → AreLinked crls when (view place.cert ∷ above) anchor → AreIssuers when k above →
      AllByRecursion (StandsAmong places false) above → n + 1 + length above ≤ most_certs → IsChained crls when signers places
  unwind anchor stands zero k at place above here kind reached links issuers among few =
      let b = begun nodes k at reached in
      let node = node_at at place here in
      let same : b.node ≡ node.0 = at_one nodes at b.node node.0 b.is_node node.1.is_node in
      let told = node.1.is.starts.0 (subst (λ (x : Node). x.is_start ≡ true) same b.is_start) in record {
        certs = view place.cert ∷ above;
        anchor = anchor;
        at = at;
        signer = place;
        is_signer = here;
        in_set = told.0;
        is_lowest = refl;
        kind = kind;
        are_certs = (record { at = at; place = place; is_at = here; kind = kind; is_cert = refl }, among);
        is_anchor = stands;
        chain = record {
          few = omega arith;
          signs = told.1;
          issuers = subst (λ (c : ℕ). AreIssuers when c above) b.counted issuers;
          links = links;
        };
      }
  unwind anchor stands (suc n) k at place above here kind reached links issuers among few =
      let node = node_at at place here in
      let from = below_of n k at place node.0 node.1 reached in
      let low = from.2 in
      let cert = view place.cert in
      let issued = issued_by low.place low.above place (issuer_of cert) (as_issuer place cert kind refl) low.step in
      let limit = has_limit place cert node.0.limit kind refl node.1.is.limit in
      let within = subst (λ (l : Option ℕ). IsWithin l from.0) limit low.within in
      let counted : k ≡ from.0 + one_if (counts cert) = from.1 ∙ ap (λ (b : Bool). from.0 + one_if b) node.1.is.counted in
      let issuers' = subst (λ (c : ℕ). AreIssuers when c above) counted issuers in
      let may = authority place kind low.step.link.names.may_issue in
      unwind anchor stands n from.0 low.at low.place (cert ∷ above) low.here low.kind low.reached (issued, links) (may, within, issuers')
      (record { at = at; place = place; is_at = here; kind = kind; is_cert = refl }, among)
      (omega arith)

  chain_of : (n : ℕ) → n ≤ most_certs → Arrives nodes n → IsChained crls when signers places
  chain_of zero few way =
      let high = place_at way.at way.anchor way.is_node in
      let b = begun nodes way.count way.at way.reached in
      let same : b.node ≡ way.anchor = at_one nodes way.at b.node way.anchor b.is_node way.is_node in
      let told = high.1.is.starts.0 (subst (λ (x : Node). x.is_start ≡ true) same b.is_start) in
      let kind : high.0.is_anchor ≡ true = sym high.1.is.is_anchor ∙ way.is_anchor in record {
        certs = [];
        anchor = view high.0.cert;
        at = way.at;
        signer = high.0;
        is_signer = high.1.is_place;
        in_set = told.0;
        is_lowest = refl;
        kind = kind;
        are_certs = tt;
        is_anchor = record { at = way.at; place = high.0; is_at = high.1.is_place; kind = kind; is_cert = refl };
        chain = record { few = omega arith; signs = told.1; issuers = tt; links = tt };
      }
  chain_of (suc n) few way =
      let high = place_at way.at way.anchor way.is_node in
      let kind : high.0.is_anchor ≡ true = sym high.1.is.is_anchor ∙ way.is_anchor in
      let from = below_of n way.count way.at high.0 way.anchor high.1 way.reached in
      let low = from.2 in
      let anchor = view high.0.cert in
      let issued = issued_by low.place low.above high.0 (anchor_of anchor) (as_anchor high.0 anchor kind refl) low.step in
      unwind anchor (record { at = way.at; place = high.0; is_at = high.1.is_place; kind = kind; is_cert = refl }) n from.0 low.at low.place []
      low.here low.kind low.reached (issued, tt) tt tt (omega arith)

  pub chain_from_way : HasWay nodes → IsChained crls when signers places
  chain_from_way way = chain_of way.0 way.1 way.2
