use Rattle.std.proofs.Common.{length, sym, subst}
use Rattle.sz_walk.specs.Progress.{IsKept}
use Rattle.sz_walk.specs.Visits.{HasOffer, Walked}
use Rattle.sz_walk.proofs.Keeping.{kept_first}
use Rattle.sz_walk.proofs.Steps.{nothing_offered}
use Rattle.sz_walk.proofs.walk.Walk.create.Goals as goal

pub invariant_of-result : goal.invariant_of-result
invariant_of-result c =
    subst (λ (walked : Walked). IsKept (length c.args.sources) walked) (sym c.in_ok-progress.ensures) (kept_first c.args.sources)

pub returns-clause-no_offer : goal.returns-clause-no_offer
returns-clause-no_offer c = subst (λ (walked : Walked). ¬ HasOffer walked) (sym c.in_ok-progress.ensures) (nothing_offered c.args.sources)
