use Rattle.std.proofs.Common.{◌≡◌, List, length, ◌-◌}
use Rattle.sz_der.specs.Spots.{Spot, spot_of}
use Rattle.sz_x509.specs.CertFault.{stands_among}
use Rattle.sz_x509.specs.CertPlaces.{LeadHere}
use Rattle.sz_x509.proofs.extensions.stands_before.Given as goal

-- the identifier is among the earlier extensions exactly where it is among those that are left up to here
abbrev pub invariant-loop-reader : goal.invariant-loop-reader
invariant-loop-reader l =
    (earlier : List Spot) → LeadHere (spot_of l.all) earlier (spot_of l.here) →
    (todo : List Spot) × LeadHere (spot_of l.reader) todo (spot_of l.here) × (stands_among earlier l.identifier ≡ stands_among todo l.identifier)

abbrev pub decreases-loop-reader : goal.decreases-loop-reader
decreases-loop-reader l = length l.reader.left.now - length l.here.left.now
