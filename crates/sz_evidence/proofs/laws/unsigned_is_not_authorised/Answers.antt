use Rattle.sz_artifacts.specs.declared.conveyed.Conveyed.TheVariants as conveyed
use Rattle.sz_evidence.proofs.OneJudgement.{unsigned_authenticated}
use Rattle.sz_evidence.proofs.laws.unsigned_is_not_authorised.Goals as goal

pub returns : goal.returns
returns c = λ identity when evidence onboarding kind content plain is.
    unsigned_authenticated identity when evidence kind content (conveyed.Onboarding onboarding) plain is
