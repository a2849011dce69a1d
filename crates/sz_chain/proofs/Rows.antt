-- The rows of the search: the fewest issuers that count, over one issuer more.
use Rattle.std.proofs.Common.{◌≡◌, ◌≤◌, ◌<◌, ◌⊎◌, ◌↔◌, ◌+◌, ℕ, zero, suc, Bool, true, false, true≢false, List, [], ◌∷◌, ◌++◌, length, get_or, Option, is_some, Some, None, refl, sym, ap, ◌∙◌, subst, inl, inr, arith, add-one}
use Rattle.std.proofs.lemmas.Bool.{false≢true, cases_Bool, cases_eq}
use Rattle.std.specs.Bool.{then_some}
use Rattle.sz_chain.specs.Chain.{IsWithin, most_certs, one_if}
use Rattle.sz_chain.specs.Search.{AreFew, Arrives, Climbs, HasAnchor, HasWay, IsBegun, IsLeast, IsOffered, IsReachedFrom, IsRow, lesser, Reaches}
use Rattle.sz_chain.specs.Sets.{At}
use Rattle.sz_chain.specs.declared.node.Node.{Node}
use Rattle.sz_chain.proofs.Elements.{at_default, at_one, at_some, at_within, grows}
use Rattle.sz_chain.proofs.Least.{least_by, least_either, least_same}

-- ---- what reaching is

module _ (nodes : List Node) where
  pub begun : (k at : ℕ) → Reaches nodes zero k at → IsBegun nodes k at
  unfolding Reaches
  begun k at r = r

  pub begins : (k at : ℕ) → IsBegun nodes k at → Reaches nodes zero k at
  unfolding Reaches
  begins k at r = r

  pub comes_from : (n k at : ℕ) → Reaches nodes (suc n) k at → IsReachedFrom nodes (Reaches nodes n) k at
  unfolding Reaches
  comes_from n k at r = r

  pub goes_on : (n k at : ℕ) → IsReachedFrom nodes (Reaches nodes n) k at → Reaches nodes (suc n) k at
  unfolding Reaches
  goes_on n k at r = r

  one_if_small : (b : Bool) → one_if b ≤ 1
  one_if_small true = omega arith
  one_if_small false = omega arith

  -- no more of the issuers count than there are
  pub few_count : (n k at : ℕ) → Reaches nodes n k at → k ≤ n
  few_count zero k at r = omega (arith, (begun k at r).counted)
  few_count (suc n) k at r =
      let from = comes_from n k at r in
      omega (arith, from.climbs.counted, few_count n from.before from.below from.reached, one_if_small from.upper.is_counted)

  pub row_few : (n : ℕ) (row : List (Option ℕ)) → n < 255 → IsRow nodes n row → AreFew row
  row_few n row small is = λ at count here. omega (arith, few_count n count at (is.each at (Some count) here).0)

  -- ---- the first row

  pub least_begun : (at : ℕ) (node : Node) (start : Option ℕ) → At nodes at node → start ≡ then_some node.is_start 0 →
      IsLeast (λ k. Reaches nodes 0 k at) start
  least_begun at node start is e =
      elim (cases_Bool node.is_start) [
        | inl is_true ↦
            let s : start ≡ Some 0 = e ∙ ap (λ (b : Bool). then_some b 0) is_true in
            rw s (begins 0 at (record { node = node; is_node = is; is_start = is_true; counted = refl }), λ k r. omega arith)
        | inr is_false ↦
            let s : start ≡ None = e ∙ ap (λ (b : Bool). then_some b 0) is_false in
            rw s (λ k r. let b = begun k at r in
            false≢true (sym is_false ∙ ap (λ (x : Node). x.is_start) (at_one nodes at node b.node is b.is_node) ∙ b.is_start))
      ]

  -- ---- one row more

  within_less : (limit : Option ℕ) (j k : ℕ) → j ≤ k → IsWithin limit k → IsWithin limit j
  within_less None j k less is = tt
  within_less (Some l) j k less is = omega arith

  -- what is offered is reached
  offered_reached : (n : ℕ) (row : List (Option ℕ)) (at k : ℕ) (upper : Node) → IsRow nodes n row → At nodes at upper →
      IsOffered nodes row (length nodes) at upper k → Reaches nodes (suc n) k at
  offered_reached n row at k upper is here offer = goes_on n k at (record {
    before = offer.before;
    below = offer.below;
    lower = offer.lower;
    upper = upper;
    is_lower = offer.is_lower;
    is_upper = here;
    reached = (is.each offer.below (Some offer.before) offer.is_before).0;
    climbs = offer.climbs;
  })

  -- the least way to the node below gives an offer of no more
  reached_least : (row : List (Option ℕ)) (at k : ℕ) (upper lower : Node) (before below : ℕ) → At nodes below lower →
      Climbs lower at upper before k → (least : Option ℕ) → At row below least → (Is : ℕ → Type 0) → Is before → IsLeast Is least →
      (j : ℕ) × IsOffered nodes row (length nodes) at upper j × (j ≤ k)
  reached_least row at k upper lower before below is climbs None here Is reached none = absurd (none before reached)
  reached_least row at k upper lower before below is climbs (Some least) here Is reached some =
      let less : least ≤ before = some.1 before reached in (
        least + one_if upper.is_counted,
        record {
          before = least;
          below = below;
          lower = lower;
          is_first = at_within nodes below lower is;
          is_lower = is;
          is_before = here;
          climbs = record {
            issued = climbs.issued;
            within = within_less upper.limit least before less climbs.within;
            counted = refl;
          };
        },
        omega (arith, climbs.counted, less),
      )

  -- what is reached is offered, with no more that count
  reached_offered : (n : ℕ) (row : List (Option ℕ)) (at k : ℕ) (upper : Node) → IsRow nodes n row → At nodes at upper →
      Reaches nodes (suc n) k at → (j : ℕ) × IsOffered nodes row (length nodes) at upper j × (j ≤ k)
  reached_offered n row at k upper is here r =
      let from = comes_from n k at r in
      let same : from.upper ≡ upper = at_one nodes at from.upper upper from.is_upper here in
      let climbs : Climbs from.lower at upper from.before k =
      subst (λ (x : Node). Climbs from.lower at x from.before k) same from.climbs in
      let within : from.below < length row = omega (arith, at_within nodes from.below from.lower from.is_lower, is.as_many) in
      let some = at_some row from.below within in
      reached_least row at k upper from.lower from.before from.below from.is_lower climbs some.0 some.1
      (λ j. Reaches nodes n j from.below) from.reached (is.each from.below some.0 some.1)

  pub least_next : (n : ℕ) (row : List (Option ℕ)) (at : ℕ) (upper : Node) (least : Option ℕ) → IsRow nodes n row → At nodes at upper →
      IsLeast (IsOffered nodes row (length nodes) at upper) least → IsLeast (λ k. Reaches nodes (suc n) k at) least
  least_next n row at upper least is here =
      least_by _ _ least (λ k. offered_reached n row at k upper is here) (λ k. reached_offered n row at k upper is here)

  -- ---- the offers of one node more

  pub offers_none : (row : List (Option ℕ)) (at : ℕ) (upper : Node) → IsLeast (IsOffered nodes row 0 at upper) None
  offers_none row at upper = λ k offer. omega (arith, offer.is_first)

  pub offers_more : (row : List (Option ℕ)) (at : ℕ) (upper lower : Node) (n k : ℕ) (told : Option ℕ) → At nodes n lower → At row n told →
      IsOffered nodes row n at upper k ⊎ ((before : ℕ) × (told ≡ Some before) × Climbs lower at upper before k) →
      IsOffered nodes row (n + 1) at upper k
  offers_more row at upper lower n k told is here (inl offer) = record {
    before = offer.before;
    below = offer.below;
    lower = offer.lower;
    is_first = omega (arith, offer.is_first);
    is_lower = offer.is_lower;
    is_before = offer.is_before;
    climbs = offer.climbs;
  }
  offers_more row at upper lower n k told is here (inr this) = record {
    before = this.0;
    below = n;
    lower = lower;
    is_first = omega arith;
    is_lower = is;
    is_before = here ∙ ap (λ (x : Option ℕ). Some x) this.1;
    climbs = this.2;
  }

  pub offers_cases : (row : List (Option ℕ)) (at : ℕ) (upper lower : Node) (n k : ℕ) (told : Option ℕ) → At nodes n lower → At row n told →
      IsOffered nodes row (n + 1) at upper k →
      IsOffered nodes row n at upper k ⊎ ((before : ℕ) × (told ≡ Some before) × Climbs lower at upper before k)
  offers_cases row at upper lower n k told is here offer =
      elim (cases_eq offer.below n) [
        | inl eq ↦
            let told_is : told ≡ Some offer.before =
            at_one row n told (Some offer.before) here (subst (λ (x : ℕ). At row x (Some offer.before)) eq offer.is_before) in
            let lower_is : offer.lower ≡ lower =
            at_one nodes n offer.lower lower (subst (λ (x : ℕ). At nodes x offer.lower) eq offer.is_lower) is in
            inr (offer.before, told_is, subst (λ (x : Node). Climbs x at upper offer.before k) lower_is offer.climbs)
        | inr ne ↦ inl (record {
          before = offer.before;
          below = offer.below;
          lower = offer.lower;
          is_first = omega (arith, offer.is_first, ne);
          is_lower = offer.is_lower;
          is_before = offer.is_before;
          climbs = offer.climbs;
        })
      ]

  -- ---- rows that grow

  -- a node more of the first row
  pub begins_more : (row new : List (Option ℕ)) (n : ℕ) (d : Node) (start : Option ℕ) → n < length nodes → length row ≡ n →
      start ≡ then_some (get_or nodes n d).is_start 0 → new ≡ row ++ start ∷ [] →
      ((at : ℕ) (least : Option ℕ) → At row at least → IsLeast (λ k. Reaches nodes 0 k at) least) →
      (at : ℕ) (least : Option ℕ) → At new at least → IsLeast (λ k. Reaches nodes 0 k at) least
  begins_more row new n d start within len e is each =
      grows (λ at least. IsLeast (λ k. Reaches nodes 0 k at) least) row new n start is len each
      (least_begun n (get_or nodes n d) start (at_default nodes n d within) e)

  -- a node more of the next row
  pub goes_on_more : (row next new : List (Option ℕ)) (n : ℕ) (d : Node) (least : Option ℕ) → n < length nodes → length next ≡ n →
      IsLeast (IsOffered nodes row (length nodes) n (get_or nodes n d)) least → new ≡ next ++ least ∷ [] →
      ((at : ℕ) (y : Option ℕ) → At next at y → (i : ℕ) → IsRow nodes i row → IsLeast (λ k. Reaches nodes (i + 1) k at) y) →
      (at : ℕ) (y : Option ℕ) → At new at y → (i : ℕ) → IsRow nodes i row → IsLeast (λ k. Reaches nodes (i + 1) k at) y
  goes_on_more row next new n d least within len is new_is each =
      grows (λ at y. (i : ℕ) → IsRow nodes i row → IsLeast (λ k. Reaches nodes (i + 1) k at) y) next new n least new_is len each
      (λ i rows. subst (λ (m : ℕ). IsLeast (λ k. Reaches nodes m k n) least) (sym (add-one i))
      (least_next i row n (get_or nodes n d) least rows (at_default nodes n d within) is))

  -- the offers of a node more
  pub least_more : (row : List (Option ℕ)) (at : ℕ) (upper : Node) (n : ℕ) (d : Node) (e : Option ℕ) (least told result : Option ℕ) →
      n < length nodes → length row ≡ length nodes → IsLeast (IsOffered nodes row n at upper) least →
      IsLeast (λ k. (before : ℕ) × (get_or row n e ≡ Some before) × Climbs (get_or nodes n d) at upper before k) told → result ≡ lesser least told →
      IsLeast (IsOffered nodes row (n + 1) at upper) result
  least_more row at upper n d e least told result within len is offer r =
      let lower = get_or nodes n d in
      let here = at_default nodes n d within in
      let there = at_default row n e (omega (arith, len, within)) in
      rw r (least_same _ _ (lesser least told) (λ k. offers_more row at upper lower n k (get_or row n e) here there)
      (λ k. offers_cases row at upper lower n k (get_or row n e) here there) (least_either _ _ least told is offer))

  pub least_all : (row : List (Option ℕ)) (at : ℕ) (upper : Node) (n : ℕ) (least : Option ℕ) → n ≡ length nodes →
      IsLeast (IsOffered nodes row n at upper) least → IsLeast (IsOffered nodes row (length nodes) at upper) least
  least_all row at upper n least e is = subst (λ (m : ℕ). IsLeast (IsOffered nodes row m at upper) least) e is

  -- ---- anchors

  pub arrives : (n : ℕ) (row : List (Option ℕ)) → IsRow nodes n row → HasAnchor nodes row (length nodes) → Arrives nodes n
  arrives n row is found = record {
    count = found.count;
    at = found.at;
    anchor = found.anchor;
    is_node = found.is_node;
    is_anchor = found.is_anchor;
    reached = (is.each found.at (Some found.count) found.is_reached).0;
  }

  anchor_in : (row : List (Option ℕ)) (at : ℕ) (anchor : Node) (count : ℕ) → At nodes at anchor → anchor.is_anchor ≡ true → (least : Option ℕ) →
      At row at least → (Is : ℕ → Type 0) → Is count → IsLeast Is least → HasAnchor nodes row (length nodes)
  anchor_in row at anchor count is anchors None here Is reached none = absurd (none count reached)
  anchor_in row at anchor count is anchors (Some least) here Is reached some = record {
    count = least;
    at = at;
    anchor = anchor;
    is_first = at_within nodes at anchor is;
    is_node = is;
    is_anchor = anchors;
    is_reached = here;
  }

  pub arrived : (n : ℕ) (row : List (Option ℕ)) → IsRow nodes n row → Arrives nodes n → HasAnchor nodes row (length nodes)
  arrived n row is way =
      let within : way.at < length row = omega (arith, at_within nodes way.at way.anchor way.is_node, is.as_many) in
      let some = at_some row way.at within in
      anchor_in row way.at way.anchor way.count way.is_node way.is_anchor some.0 some.1 (λ k. Reaches nodes n k way.at) way.reached
      (is.each way.at some.0 some.1)

  -- ---- the first node that is an anchor and is reached

  some_of : (o : Option ℕ) → is_some o ≡ true → (count : ℕ) × (o ≡ Some count)
  some_of None known = absurd (true≢false (sym known))
  some_of (Some count) known = (count, refl)

  pub anchor_found : (row : List (Option ℕ)) (n : ℕ) (d : Node) (e : Option ℕ) → n < length nodes → length row ≡ length nodes →
      (get_or nodes n d).is_anchor ≡ true → is_some (get_or row n e) ≡ true → HasAnchor nodes row (length nodes)
  anchor_found row n d e within len anchor some =
      let told = some_of (get_or row n e) some in record {
        count = told.0;
        at = n;
        anchor = get_or nodes n d;
        is_first = within;
        is_node = at_default nodes n d within;
        is_anchor = anchor;
        is_reached = at_default row n e (omega (arith, len, within)) ∙ ap (λ (x : Option ℕ). Some x) told.1;
      }

  earlier_anchor : (row : List (Option ℕ)) (n : ℕ) (found : HasAnchor nodes row (n + 1)) → (found.at ≡ n → ⊥) → HasAnchor nodes row n
  earlier_anchor row n found ne = record {
    count = found.count;
    at = found.at;
    anchor = found.anchor;
    is_first = omega (arith, found.is_first, ne);
    is_node = found.is_node;
    is_anchor = found.is_anchor;
    is_reached = found.is_reached;
  }

  pub not_anchor : (row : List (Option ℕ)) (n : ℕ) (d : Node) → n < length nodes → (get_or nodes n d).is_anchor ≡ false →
      (HasAnchor nodes row n → ⊥) → HasAnchor nodes row (n + 1) → ⊥
  not_anchor row n d within isnt none found =
      none (earlier_anchor row n found (λ eq.
      let here = subst (λ (k : ℕ). At nodes k found.anchor) eq found.is_node in
      let same : found.anchor ≡ get_or nodes n d = at_one nodes n found.anchor (get_or nodes n d) here (at_default nodes n d within) in
      true≢false (sym found.is_anchor ∙ ap (λ (x : Node). x.is_anchor) same ∙ isnt)))

  pub not_reached : (row : List (Option ℕ)) (n : ℕ) (e : Option ℕ) → n < length row → is_some (get_or row n e) ≡ false →
      (HasAnchor nodes row n → ⊥) → HasAnchor nodes row (n + 1) → ⊥
  not_reached row n e within isnt none found =
      none (earlier_anchor row n found (λ eq.
      let here = subst (λ (k : ℕ). At row k (Some found.count)) eq found.is_reached in
      let same : get_or row n e ≡ Some found.count = at_one row n (get_or row n e) (Some found.count) (at_default row n e within) here in
      true≢false (sym (ap is_some same) ∙ isnt)))

  -- ---- a way

  pub is_row : (n : ℕ) (row slice : List (Option ℕ)) → slice ≡ row → IsRow nodes n row → IsRow nodes n slice
  is_row n row slice e is = subst (λ (r : List (Option ℕ)). IsRow nodes n r) (sym e) is

  pub way_here : (n : ℕ) (row slice : List (Option ℕ)) → n ≤ most_certs → slice ≡ row → IsRow nodes n row → HasAnchor nodes slice (length nodes) →
      HasWay nodes
  way_here n row slice few e is found = (n, few, arrives n slice (is_row n row slice e is) found)

  pub no_way_yet : (n : ℕ) (row slice : List (Option ℕ)) (found : Bool) → slice ≡ row → IsRow nodes n row →
      (found ≡ true) ↔ HasAnchor nodes slice (length nodes) → found ≡ false → ((m : ℕ) → m < n → Arrives nodes m → ⊥) → (m : ℕ) → m < n + 1 →
      Arrives nodes m → ⊥
  no_way_yet n row slice found e is tells isnt none m few way =
      elim (cases_eq m n) [
        | inl eq ↦
            let here = subst (Arrives nodes) eq way in
            true≢false (sym (tells.1 (arrived n slice (is_row n row slice e is) here)) ∙ isnt)
        | inr ne ↦ none m (omega arith) way
      ]

  pub way_last : (n : ℕ) (row slice : List (Option ℕ)) (found : Bool) → n ≡ most_certs → slice ≡ row → IsRow nodes n row →
      (found ≡ true) ↔ HasAnchor nodes slice (length nodes) → ((m : ℕ) → m < n → Arrives nodes m → ⊥) → (found ≡ true) ↔ HasWay nodes
  way_last n row slice found last e is tells none = (
    λ known. way_here n row slice (omega arith) e is (tells.0 known),
    λ way. elim (cases_eq way.0 n) [
      | inl eq ↦ tells.1 (arrived n slice (is_row n row slice e is) (subst (Arrives nodes) eq way.2))
      | inr ne ↦ absurd (none way.0 (omega (arith, way.1, ne, last)) way.2)
    ],
  )
