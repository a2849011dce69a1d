use Rattle.sz_hss.proofs.Spelled.{no-wrong_byte}
use Rattle.sz_hss.proofs.laws.stored_keys_have_no_wrong_byte.Goals as goal

pub returns : goal.returns
returns c stored bytes is = no-wrong_byte stored bytes is
