use Rattle.sz_evidence.specs.Judgement.{First, plain_rules}
use Rattle.sz_evidence.specs.View.{IsReason, json_refusal}
use Rattle.sz_evidence.proofs.Steps.{exit, first_at_fault}
use Rattle.sz_evidence.proofs.judgement.judge_plain.Goals as goal

pub returns-in_err-is_onboarding-clause-refused : goal.returns-in_err-is_onboarding-clause-refused
returns-in_err-is_onboarding-clause-refused c =
    exit c.from_residual.result (json_refusal c.in_err-is_onboarding.field-0.0) (IsReason (First (plain_rules c.args.content.now)))
    c.from_residual.ensures.1 (first_at_fault c.args.content.now c.in_err-is_onboarding.field-0.0 c.in_err-is_onboarding.ensures.refused)
