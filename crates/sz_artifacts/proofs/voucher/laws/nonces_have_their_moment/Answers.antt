use Rattle.sz_artifacts.proofs.Fitting.{fits_with_nonce, other_nonce_refused}
use Rattle.sz_artifacts.proofs.voucher.laws.nonces_have_their_moment.Goals as goal

pub returns-clause-exactly : goal.returns-clause-exactly
returns-clause-exactly c = fits_with_nonce

pub returns-clause-refused : goal.returns-clause-refused
returns-clause-refused c = other_nonce_refused
