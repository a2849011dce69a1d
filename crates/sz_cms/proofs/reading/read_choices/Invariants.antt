use Rattle.std.specs.Prelude.{map}
use Rattle.std.proofs.Common.{◌≡◌, List, length}
use Rattle.sz_der.specs.Spots.{Spot, spot_of}
use Rattle.sz_cms.specs.MessageFault.{choice_fault, sequences_at}
use Rattle.sz_cms.proofs.Walk.{Walks}
use Rattle.sz_cms.proofs.reading.read_choices.Given as goal

abbrev pub invariant-loop-each : goal.invariant-loop-each
invariant-loop-each g l =
    (earlier : List Spot) × Walks (choice_fault g.row.MOST) (spot_of l.fn.first) earlier (spot_of l.each)
    × (map (λ item. item.now) l.kept.items ≡ sequences_at earlier)

abbrev pub decreases-loop-each : goal.decreases-loop-each
decreases-loop-each g l = length l.each.left.now
