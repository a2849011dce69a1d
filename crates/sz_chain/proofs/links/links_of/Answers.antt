use Rattle.std.proofs.Common.{◌≡◌, List, false, subst}
use Rattle.sz_chain.specs.Links.{AreMore, HasPlace}
use Rattle.sz_chain.specs.Sets.{AreAt, has}
use Rattle.sz_chain.specs.declared.set.PlaceSet.{PlaceSet}
use Rattle.sz_chain.proofs.Anchored.{first_round, next_round}
use Rattle.sz_chain.proofs.links.links_of.Goals as goal

pub loop-round-init : goal.loop-round-init
loop-round-init c =
    first_round c.args.when.0 c.args.places.now c.no_links-links.result.items c.places_where-reached.result c.no_links-links.ensures
    c.places_where-reached.ensures

pub loop-round-preserved : goal.loop-round-preserved
loop-round-preserved c =
    let when = c.args.when.0 in
    let places = c.args.places.now in
    let more = c.more_links-links.result.items in
    let reached = c.loop-round.reached in
    let are = subst (λ (links : List PlaceSet). AreMore when places c.loop-round.fresh links more) c.as_slice.ensures.value c.more_links-links.ensures in
    let beyond = subst (λ (links : List PlaceSet). AreAt links (λ at issuers. HasPlace issuers × (has reached at ≡ false)) c.linked_beyond-fresh.result)
    c.as_slice-in-loop-round.ensures.value c.linked_beyond-fresh.ensures in
    next_round when places c.loop-round._round c.loop-round.links.items reached c.loop-round.fresh c.loop-round.invariant more
    c.linked_beyond-fresh.result c.or-reached.result are beyond c.or-reached.ensures
