use Rattle.std.proofs.Common.{◌≡◌, List, ◌++◌, length}
use Rattle.serde_json.specs.View.{items_view}
use Rattle.sz_base.specs.declared.target.Target.{Target}
use Rattle.sz_artifacts.specs.Redirect.{AreServers, servers_fault}
use Rattle.sz_artifacts.proofs.conveyed.redirect.targets.Given as goal

abbrev pub invariant-servers : goal.invariant-servers
invariant-servers l = record {
  read : (more : List Target) → AreServers (items_view l.rest) more → AreServers (items_view l.fn.servers) (l.targets ++ more);
  fault : servers_fault (items_view l.fn.servers) ≡ servers_fault (items_view l.rest);
}

abbrev pub decreases-servers : goal.decreases-servers
decreases-servers l = length l.rest
