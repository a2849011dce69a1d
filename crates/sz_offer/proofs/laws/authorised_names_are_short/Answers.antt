use Rattle.sz_offer.proofs.Naming.{short_names}
use Rattle.sz_offer.proofs.laws.authorised_names_are_short.Goals as goal

pub returns : goal.returns
returns c identity when evidence onboarding is =
    short_names is.conveys.0 onboarding is.conveys.2.1
