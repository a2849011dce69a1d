use Rattle.sz_record.proofs.Anchors.{Going}
use Rattle.sz_record.proofs.reading.read_anchors.Given as goal

abbrev pub invariant-anchors : goal.invariant-anchors
invariant-anchors l = Going l.count l.initial.unread.left.now l.anchors l.left l.unread.left.now

abbrev pub decreases-anchors : goal.decreases-anchors
decreases-anchors l = l.left
