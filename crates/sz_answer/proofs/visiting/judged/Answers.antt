use Rattle.std.proofs.Common.{Ok, Err, refl, ap, subst}
use Rattle.sz_evidence.specs.declared.judgement.Judged.{Judged}
use Rattle.sz_evidence.specs.declared.judgement.Judged.TheVariants as judged
use Rattle.sz_answer.proofs.NeverLost.{other_reason}
use Rattle.sz_answer.proofs.Visits.{judged_as, refused_as}
use Rattle.sz_answer.specs.Visit.{search_of}
use Rattle.sz_evidence.specs.Judgement.{Judgement}
use Rattle.sz_answer.proofs.visiting.judged.Goals as goal

pub returns-in-Ok-Unsigned-clause-judged : goal.returns-in-Ok-Unsigned-clause-judged
returns-in-Ok-Unsigned-clause-judged c = λ files.
    judged_as (search_of c.args.identity.now c.args.when files) c.args.evidence (Ok c.in-Ok-Unsigned.field-0)
    (Ok (judged.Unsigned c.in-Ok-Unsigned.targets)) _ (ap (λ (j : Judged). Ok j) c.in-Ok-Unsigned.field-0-is)
    c.in-Ok-Unsigned.ensures.judged refl

pub returns-in-Ok-Redirect-clause-judged : goal.returns-in-Ok-Redirect-clause-judged
returns-in-Ok-Redirect-clause-judged c = λ files.
    judged_as (search_of c.args.identity.now c.args.when files) c.args.evidence (Ok c.in-Ok-Redirect.field-0)
    (Ok (judged.Redirect c.in-Ok-Redirect.targets)) _ (ap (λ (j : Judged). Ok j) c.in-Ok-Redirect.field-0-is)
    c.in-Ok-Redirect.ensures.judged refl

pub returns-in-Ok-Onboarding-clause-judged : goal.returns-in-Ok-Onboarding-clause-judged
returns-in-Ok-Onboarding-clause-judged c = λ files.
    judged_as (search_of c.args.identity.now c.args.when files) c.args.evidence (Ok c.in-Ok-Onboarding.field-0)
    (Ok (judged.Onboarding c.in-Ok-Onboarding.onboarding)) _
    (ap (λ (j : Judged). Ok j) c.in-Ok-Onboarding.field-0-is) c.in-Ok-Onboarding.ensures.judged refl

pub returns-in-Err-Reason-clause-judged : goal.returns-in-Err-Reason-clause-judged
returns-in-Err-Reason-clause-judged c = λ files. (
  Err c.in-Err-Reason.reason,
  refused_as c.args.identity.now c.args.when c.args.evidence c.in-Err-Reason.field-0 c.in-Err-Reason.reason
      c.in-Err-Reason.field-0-is c.in-Err-Reason.ensures.refused,
  refl,
)

pub returns-in-Err-Reason-clause-not_lost : goal.returns-in-Err-Reason-clause-not_lost
returns-in-Err-Reason-clause-not_lost c =
    other_reason c.args.identity.now c.args.when c.args.evidence c.in-Err-Reason.reason
    (refused_as c.args.identity.now c.args.when c.args.evidence c.in-Err-Reason.field-0 c.in-Err-Reason.reason
    c.in-Err-Reason.field-0-is c.in-Err-Reason.ensures.refused)

pub returns-in-Ok-Onboarding-clause-sound : goal.returns-in-Ok-Onboarding-clause-sound
returns-in-Ok-Onboarding-clause-sound c =
    subst (λ (j : Judged). Judgement c.args.identity.now c.args.when c.args.evidence (Ok j))
    c.in-Ok-Onboarding.field-0-is c.in-Ok-Onboarding.ensures.judged
