use Rattle.std.proofs.Common.{◌≡◌}
use Rattle.sz_artifacts.specs.declared.conveyed.Conveyed.TheVariants as conveyed
use Rattle.sz_evidence.proofs.OneJudgement.{one_information}
use Rattle.sz_evidence.proofs.laws.evidence_authorises_one.Goals as goal

pub returns : goal.returns
returns c = λ identity when evidence onboarding other is same.
    let e : conveyed.Onboarding onboarding ≡ conveyed.Onboarding other =
    one_information identity when evidence (conveyed.Onboarding onboarding) (conveyed.Onboarding other) is same in
    cc
