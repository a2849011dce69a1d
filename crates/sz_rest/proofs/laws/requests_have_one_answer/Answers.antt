use Rattle.sz_rest.proofs.Rules.{status_of_rule}
use Rattle.sz_rest.proofs.laws.requests_have_one_answer.Goals as goal

pub returns-clause-a_refusal : goal.returns-clause-a_refusal
returns-clause-a_refusal c = status_of_rule
