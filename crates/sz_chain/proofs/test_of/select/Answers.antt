use Rattle.std.proofs.Common.{List, subst}
use Rattle.sz_chain.specs.Sets.{AreAt}
use Rattle.sz_chain.specs.declared.place.Place.{Place}
use Rattle.sz_chain.proofs.test_of.select.Goals as goal

pub returns : goal.returns
returns g c =
    subst (λ (xs : List Place). AreAt xs (λ _ place. g.T.Test.holds c.args.test.now place) c.places_where.result) c.as_slice.ensures.value
    c.places_where.ensures
