use Rattle.std.proofs.Common.{List, length}
use Rattle.sz_der.specs.Spots.{Spot, spot_of}
use Rattle.sz_cms.specs.MessageFault.{algorithm_fault}
use Rattle.sz_cms.proofs.Walk.{Walks}
use Rattle.sz_cms.proofs.reading.read_algorithms.Given as goal

abbrev pub invariant-loop-each : goal.invariant-loop-each
invariant-loop-each l = (earlier : List Spot) × Walks (λ _. algorithm_fault) (spot_of l.fn.first) earlier (spot_of l.each)

abbrev pub decreases-loop-each : goal.decreases-loop-each
decreases-loop-each l = length l.each.left.now
