use Rattle.std.proofs.Common.{◌≡◌, List, [], ◌++◌, length, ◌≤◌}
use Rattle.sz_der.specs.Spots.{Spot, spot_of, spots_from}
use Rattle.sz_x509.specs.CertFault.{each_fault}
use Rattle.sz_x509.specs.CertPlaces.{LeadHere, RestrictedAt}
use Rattle.sz_x509.specs.Extensions.{most_extensions}
use Rattle.sz_x509.specs.View.{extensions_of}
use Rattle.sz_x509.proofs.extensions.read_extensions.Given as goal

-- the extensions up to here have no fault, and restrict a certificate to what was found so far
abbrev pub invariant-loop-reader : goal.invariant-loop-reader
invariant-loop-reader l =
    (earlier : List Spot) × LeadHere (spot_of l.all) earlier (spot_of l.reader) × (length earlier ≡ l.before) × (l.before ≤ most_extensions) ×
    (spots_from (spot_of l.all) ≡ earlier ++ spots_from (spot_of l.reader))
    × (each_fault [] (spots_from (spot_of l.all)) ≡ each_fault earlier (spots_from (spot_of l.reader)))
    × RestrictedAt earlier (extensions_of l.restrictions)

abbrev pub decreases-loop-reader : goal.decreases-loop-reader
decreases-loop-reader l = length l.reader.left.now
