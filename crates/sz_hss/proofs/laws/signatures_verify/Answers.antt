use Rattle.sz_hss.proofs.Verifies.{HssOk-signed}
use Rattle.sz_hss.proofs.laws.signatures_verify.Goals as goal

pub returns : goal.returns
returns c key n message is = HssOk-signed key n message is
