use Rattle.sz_lms.proofs.Longest.{no_longer, ok_cut, public_cut, signature_cut}
use Rattle.sz_lms.proofs.law.longest_bound_verdicts.Goals as goal

pub returns-clause-longest : goal.returns-clause-longest
returns-clause-longest c = no_longer

pub returns-clause-public : goal.returns-clause-public
returns-clause-public c = public_cut

pub returns-clause-signature : goal.returns-clause-signature
returns-clause-signature c = signature_cut

pub returns-clause-ok : goal.returns-clause-ok
returns-clause-ok c = ok_cut
