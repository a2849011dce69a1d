use Rattle.sz_lms.proofs.LawLms.{lms_law}
use Rattle.sz_lms.proofs.law.lms_rules_decide_ok.Goals as goal

pub returns : goal.returns
returns c = lms_law
