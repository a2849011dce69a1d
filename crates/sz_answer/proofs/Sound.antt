-- What every answer says of itself, whatever is told: what is no offer is sound for every device.
use Rattle.std.specs.Prelude.{Result, IfOk}
use Rattle.std.proofs.lemmas.Result.{IfOk-weaker}
use Rattle.sz_base.specs.declared.identity.Identity.{Identity}
use Rattle.sz_base.specs.declared.moment.Moment.{Moment}
use Rattle.sz_answer.specs.Visit.{IsNoOffer, IsSound}
use Rattle.sz_answer.specs.declared.answer.Answer.{Answer}
use Rattle.sz_answer.specs.declared.answer.Answer.TheVariants as answer

sound_without : (identity : Identity) (when : Moment) (given : Answer) → IsNoOffer given → IsSound identity when given
sound_without identity when (answer.Listed targets) none = tt
sound_without identity when (answer.Redirected targets) none = tt
sound_without identity when (answer.Offered onboarding evidence) none = absurd none
sound_without identity when (answer.Refused found) none = tt

pub no_offer_sound : {E : Type 0} → (identity : Identity) (when : Moment) (result : Result Answer E) → IfOk result IsNoOffer
    → IfOk result (IsSound identity when)
no_offer_sound identity when result none =
    IfOk-weaker result IsNoOffer (IsSound identity when) (λ found is. sound_without identity when found is) none
