use Rattle.std.proofs.Common.{arith}
use Rattle.std.proofs.lemmas.Bool.Decides.{nat_tests}
use Rattle.sz_cell.specs.Slot.{place}
use Rattle.sz_cell.proofs.region.Region.place.Goals as goal

pub returns-then-slot-eq0 : goal.returns-then-slot-eq0
unfolding place
returns-then-slot-eq0 c = grind (arith, nat_tests)

pub returns-else-slot-eq0 : goal.returns-else-slot-eq0
unfolding place
returns-else-slot-eq0 c = grind (arith, nat_tests)
