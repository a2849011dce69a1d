-- What is offered is authorised, whatever is told.
use Rattle.std.specs.Prelude.{◌≡◌, Result, Ok, Err, IfOk}
use Rattle.std.proofs.Common.{sym, subst}
use Rattle.sz_base.specs.declared.fault.OutOfMemory.{OutOfMemory}
use Rattle.sz_base.specs.declared.identity.Identity.{Identity}
use Rattle.sz_base.specs.declared.moment.Moment.{Moment}
use Rattle.sz_answer.specs.Visit.{IsSound}
use Rattle.sz_answer.specs.declared.answer.Answer.{Answer}
use Rattle.sz_answer.specs.declared.answer.Answer.TheVariants as answer
use Rattle.sz_walk.specs.Progress.{Follows, IsSettled, step_of}
use Rattle.sz_walk.specs.Visits.{Walked}
use Rattle.sz_walk.specs.Walk.{OffersAuthorised}
use Rattle.sz_walk.specs.declared.entry.Entry.{Entry}
use Rattle.sz_walk.specs.declared.step.Step.{Step}
use Rattle.sz_walk.specs.declared.step.Step.TheVariants as step

-- the step that an answer gives offers what the answer offers
answer_authorised : (identity : Identity) (when : Moment) (given : Answer) → IsSound identity when given
    → OffersAuthorised identity when (step_of given)
answer_authorised identity when (answer.Listed targets) sound = tt
answer_authorised identity when (answer.Redirected targets) sound = tt
answer_authorised identity when (answer.Offered onboarding evidence) sound = sound
answer_authorised identity when (answer.Refused found) sound = tt

by_step : (identity : Identity) (when : Moment) (given : Answer) (taken : Step) → IsSound identity when given
    → taken ≡ step_of given → OffersAuthorised identity when taken
by_step identity when given taken sound is =
    subst (λ (s : Step). OffersAuthorised identity when s) (sym is) (answer_authorised identity when given sound)

followed : (identity : Identity) (when : Moment) (front : Entry) (given : Answer) (taken : Step) (before after : Walked)
    → IsSound identity when given → Follows front given taken before after → OffersAuthorised identity when taken
followed identity when front given step.OutOfMemory before after sound follows = tt
followed identity when front given step.Passed before after sound follows = tt
followed identity when front given step.Done before after sound follows = tt
followed identity when front given (step.Offer onboarding evidence) before after sound follows =
    by_step identity when given (step.Offer onboarding evidence) sound follows.0

-- what a visit came to, once it is settled
pub settled_authorised : (identity : Identity) (when : Moment) (front : Entry) (visited : Result Answer OutOfMemory)
    (taken : Step) (before after : Walked) → IfOk visited (IsSound identity when)
    → IsSettled front visited taken before after → OffersAuthorised identity when taken
settled_authorised identity when front (Ok given) taken before after sound settled =
    followed identity when front given taken before after sound settled
settled_authorised identity when front (Err fault) taken before after sound settled =
    subst (λ (s : Step). OffersAuthorised identity when s) (sym settled.0) tt
