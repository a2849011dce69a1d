use Rattle.sz_lms.proofs.RuleLists.{unknown}
use Rattle.sz_lms.proofs.level.Level.read.Goals as goal

pub returns-in_default-clause-rules : goal.returns-in_default-clause-rules
returns-in_default-clause-rules c = unknown _ _ c.in_default.ensures
