use Rattle.std.proofs.Common.{◌≡◌, ◌↔◌, ℕ, List, Option, Some, None, true, Bor, sym, subst}
use Rattle.std.specs.Option.{option_copied}
use Rattle.sz_chain.specs.Lists.{AreLists, AreRead}
use Rattle.sz_chain.specs.Ways.{AreSteps, IsChained}
use Rattle.sz_chain.specs.declared.lists.CurrentList.{CurrentList}
use Rattle.sz_chain.specs.declared.set.PlaceSet.{PlaceSet}
use Rattle.sz_chain.proofs.Told.{lists_read, steps_of_links}
use Rattle.sz_chain.proofs.way.is_chained.Goals as goal

pub cleared_links-cleared-requires-clause-read : goal.cleared_links-cleared-requires-clause-read
cleared_links-cleared-requires-clause-read c =
    subst (λ (xs : List CurrentList). AreRead xs) (sym c.as_slice.ensures.value)
    (lists_read c.args.when.0 c.args.places.now c.in_one.result c.in-Some.crls.now c.current_lists-lists.result.items c.current_lists-lists.ensures)

pub returns-in-None : goal.returns-in-None
returns-in-None c =
    subst (λ (o : Option (Bor (List (List ℕ)))). (c.is_stepped.result ≡ true) ↔ IsChained (option_copied o) c.args.when.0 c.args.signers c.args.places.now)
    (sym c.in-None.is)
    (c.is_stepped.ensures None (steps_of_links c.args.when.0 c.args.places.now (record { bits = 0 }) c.args.links.now c.requires.linked))

pub returns-in-Some : goal.returns-in-Some
returns-in-Some c =
    let crls = c.in-Some.crls.now in
    let lists = subst (λ (xs : List CurrentList). AreLists c.args.when.0 crls c.args.places.now c.in_one.result xs) (sym c.as_slice.ensures.value)
    c.current_lists-lists.ensures in
    let steps = subst (λ (xs : List PlaceSet). AreSteps (Some crls) c.args.when.0 c.args.places.now xs) (sym c.as_slice-in-Some.ensures.value)
    (c.cleared_links-cleared.ensures c.args.when.0 crls c.in_one.result c.requires.linked c.in_one.ensures lists) in
    let found = c.is_stepped-in-Some.result in
    subst (λ (o : Option (Bor (List (List ℕ)))). (found ≡ true) ↔ IsChained (option_copied o) c.args.when.0 c.args.signers c.args.places.now) (sym c.in-Some.is)
    (c.is_stepped-in-Some.ensures (Some crls) steps)
