use Rattle.std.proofs.Common.{◌≡◌, map, take}
use Rattle.serde_json.specs.View.{view}
use Rattle.sz_artifacts.specs.WrittenInformation.{server_value}
use Rattle.sz_artifacts.proofs.conveyed.writing.servers.Given as goal

abbrev pub invariant-loop-target : goal.invariant-loop-target
invariant-loop-target l = map view l.servers.items ≡ map server_value (take l.target-index l.target-items)
