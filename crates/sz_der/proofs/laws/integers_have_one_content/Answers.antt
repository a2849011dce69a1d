use Rattle.sz_der.proofs.Values.{one_content}
use Rattle.sz_der.proofs.laws.integers_have_one_content.Goals as goal

pub returns : goal.returns
returns c = one_content
