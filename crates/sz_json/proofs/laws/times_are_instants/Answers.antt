use Rattle.sz_json.proofs.Instants.{IsInstant-seconds_of}
use Rattle.sz_json.proofs.laws.times_are_instants.Goals as goal

pub returns : goal.returns
returns c = IsInstant-seconds_of
