use Rattle.sz_rest.proofs.Replies.{reads_back}
use Rattle.sz_rest.proofs.laws.replies_read_back.Goals as goal

pub returns : goal.returns
returns c = reads_back
