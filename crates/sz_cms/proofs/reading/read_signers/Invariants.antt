use Rattle.std.specs.Prelude.{map}
use Rattle.std.proofs.Common.{◌≡◌, List, length}
use Rattle.sz_der.specs.Spots.{Spot, spot_of}
use Rattle.sz_cms.specs.MessageFault.{signer_fault}
use Rattle.sz_cms.specs.Places.{signer_at}
use Rattle.sz_cms.specs.View.{signer_of}
use Rattle.sz_cms.proofs.Walk.{Walks}
use Rattle.sz_cms.proofs.reading.read_signers.Given as goal

abbrev pub invariant-loop-each : goal.invariant-loop-each
invariant-loop-each l =
    (earlier : List Spot) × Walks signer_fault (spot_of l.fn.first) earlier (spot_of l.each) × (map signer_of l.signers.items ≡ map signer_at earlier)

abbrev pub decreases-loop-each : goal.decreases-loop-each
decreases-loop-each l = length l.each.left.now
