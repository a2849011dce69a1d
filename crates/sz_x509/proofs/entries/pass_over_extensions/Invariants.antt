use Rattle.std.proofs.Common.{◌≡◌, length}
use Rattle.sz_der.specs.Spots.{each, spot_of, spots_from}
use Rattle.sz_x509.specs.CrlFault.{passed_over_fault}
use Rattle.sz_x509.proofs.entries.pass_over_extensions.Given as goal

-- the items up to here have no fault
abbrev pub invariant-loop-reader : goal.invariant-loop-reader
invariant-loop-reader l = each passed_over_fault (spots_from (spot_of l.all)) ≡ each passed_over_fault (spots_from (spot_of l.reader))

abbrev pub decreases-loop-reader : goal.decreases-loop-reader
decreases-loop-reader l = length l.reader.left.now
