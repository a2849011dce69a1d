use Rattle.std.proofs.Common.{List, None, true≢false, refl, sym, ◌∙◌, subst}
use Rattle.std.specs.Option.{option_copied}
use Rattle.sz_chain.specs.Links.{AreLinks}
use Rattle.sz_chain.specs.Ways.{IsChained}
use Rattle.sz_chain.specs.declared.place.Place.{Place}
use Rattle.sz_chain.specs.declared.set.PlaceSet.{PlaceSet}
use Rattle.sz_chain.proofs.Unlisted.{chained_without_lists}
use Rattle.sz_chain.proofs.way.find_chain.Goals as goal

pub is_chained-requires-clause-linked : goal.is_chained-requires-clause-linked
is_chained-requires-clause-linked c =
    subst (λ (links : List PlaceSet). AreLinks c.args.when.0 c.as_slice-places.result.now links) (sym c.as_slice.ensures.value) c.links_of-links.ensures

pub is_chained-requires-2-clause-linked : goal.is_chained-requires-2-clause-linked
is_chained-requires-2-clause-linked c =
    subst (λ (links : List PlaceSet). AreLinks c.args.when.0 c.as_slice-places.result.now links) (sym c.as_slice-2.ensures.value) c.links_of-links.ensures

pub returns-then-not-is_chained : goal.returns-then-not-is_chained
returns-then-not-is_chained c =
    let crls = option_copied c.args.crls in
    let items = c.args.places.now.items in
    let none : IsChained None c.args.when.0 c.args.signers items → ⊥ = λ is.
    let here = subst (λ (xs : List Place). IsChained None c.args.when.0 c.args.signers xs) (sym c.as_slice-places.ensures.value) is in
    true≢false (sym (c.is_chained.ensures.1 here) ∙ c.if-not-is_chained.true) in record {
      ok = (λ is. absurd (true≢false (sym is)), λ is. absurd (none (chained_without_lists crls c.args.when.0 c.args.signers items is)));
      fault = none;
    }

pub returns-then-not-is_chained-2 : goal.returns-then-not-is_chained-2
returns-then-not-is_chained-2 c =
    let crls = option_copied c.args.crls in
    let items = c.args.places.now.items in
    let same = c.as_slice-places.ensures.value in
    let none : IsChained crls c.args.when.0 c.args.signers items → ⊥ = λ is.
    let here = subst (λ (xs : List Place). IsChained crls c.args.when.0 c.args.signers xs) (sym same) is in
    true≢false (sym (c.is_chained-2.ensures.1 here) ∙ c.if-not-is_chained-2.true) in record {
      ok = (λ is. absurd (true≢false (sym is)), λ is. absurd (none is));
      fault = (
        subst (λ (xs : List Place). IsChained None c.args.when.0 c.args.signers xs) same (c.is_chained.ensures.0 c.if-not-is_chained.false),
        none,
      );
    }

pub returns : goal.returns
returns c =
    let found = c.is_chained-2.ensures.0 c.if-not-is_chained-2.false in
    let is = subst (λ (xs : List Place). IsChained (option_copied c.args.crls) c.args.when.0 c.args.signers xs) c.as_slice-places.ensures.value found in
    record { ok = (λ _. is, λ _. refl); fault = tt }
