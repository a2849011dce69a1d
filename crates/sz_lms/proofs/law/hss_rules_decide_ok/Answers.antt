use Rattle.sz_lms.proofs.LawHss.{hss_law}
use Rattle.sz_lms.proofs.law.hss_rules_decide_ok.Goals as goal

pub returns : goal.returns
returns c = hss_law
