use Rattle.sz_evidence.proofs.laws.judged_onboarding_is_authorised.Goals as goal

pub returns : goal.returns
returns c = λ identity when evidence onboarding. (λ is. is, λ is. is)
