use Rattle.std.proofs.Common.{arith}
use Rattle.std.proofs.lemmas.Result.{IfOk-weaker}
use Rattle.sz_artifacts.proofs.OnboardingBack.{onboarding_reads_back}
use Rattle.sz_artifacts.proofs.PlainInformation.{plain_onboarding}
use Rattle.sz_artifacts.specs.WrittenInformation.{onboarding_value}
use Rattle.sz_artifacts.proofs.conveyed.writing.write_onboarding.Goals as goal

pub returns-clause-written : goal.returns-clause-written
returns-clause-written c =
    let plain = plain_onboarding c.args.onboarding.now in
    let compact = rw c.in_ok-value.ensures at c.write.ensures.compact in
    IfOk-weaker c.write.result _ _ (λ bytes h. h plain.no_float) compact

pub returns-clause-reads_back : goal.returns-clause-reads_back
returns-clause-reads_back c =
    let onboarding = c.args.onboarding.now in
    let plain = plain_onboarding onboarding in
    let again = rw c.in_ok-value.ensures at c.write.ensures.reads_back in
    IfOk-weaker c.write.result _ _
    (λ bytes h value is few. (
      onboarding_value onboarding,
      record { bounded = few; json = h (omega (arith, plain.shallow)) },
      onboarding_reads_back value onboarding is.1,
    ))
    again
