use Rattle.sz_uri.proofs.OneReading.{one_uri}
use Rattle.sz_uri.proofs.laws.uris_have_one_reading.Goals as goal

pub returns : goal.returns
returns c = one_uri
