use Rattle.std.proofs.Common.{List, length}
use Rattle.sz_der.specs.Spots.{Spot, spot_of}
use Rattle.sz_cms.specs.Known.{AreKnown}
use Rattle.sz_cms.specs.MessageFault.{attribute_fault}
use Rattle.sz_cms.proofs.Walk.{Walks}
use Rattle.sz_cms.proofs.attributes.read_known.Given as goal

abbrev pub invariant-loop-known : goal.invariant-loop-known
invariant-loop-known l =
    (earlier : List Spot) × Walks attribute_fault (spot_of l.fn.first) earlier (spot_of l.each)
    × AreKnown earlier (record { content_type = l.known.0; digest = l.known.1.0 })

abbrev pub decreases-loop-known : goal.decreases-loop-known
decreases-loop-known l = length l.each.left.now
