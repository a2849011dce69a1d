use Rattle.std.proofs.Common.{List, ℕ, refl, sym, subst}
use Rattle.sz_x509.specs.Certificate.{CertOf}
use Rattle.sz_evidence.proofs.vouched.check_pinned.Goals as goal

pub returns-in-Err-clause-refused : goal.returns-in-Err-clause-refused
returns-in-Err-clause-refused c = (
  λ cert is. c.in-Err.ensures.only cert (subst (λ (bytes : List ℕ). CertOf bytes cert) (sym c.as_slice.ensures) is),
  refl,
)
