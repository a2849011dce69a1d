use Rattle.sz_rest.proofs.Replies.{one_evidence, read_reply, reply_fault_none}
use Rattle.sz_rest.proofs.laws.faultless_values_are_replies.Goals as goal

pub returns-clause-exactly : goal.returns-clause-exactly
returns-clause-exactly c = λ value. (read_reply value, λ found. reply_fault_none value found.0 found.1 found.2)

pub returns-clause-one_evidence : goal.returns-clause-one_evidence
returns-clause-one_evidence c = one_evidence
