use Rattle.sz_lms.proofs.LawOts.{ots_law, form_type, ots_key_law}
use Rattle.sz_lms.proofs.law.ots_rules_decide_spelling.Goals as goal

pub returns-clause-spelled : goal.returns-clause-spelled
returns-clause-spelled c = ots_law

pub returns-clause-type_named : goal.returns-clause-type_named
returns-clause-type_named c = form_type

pub returns-clause-key : goal.returns-clause-key
returns-clause-key c = ots_key_law
