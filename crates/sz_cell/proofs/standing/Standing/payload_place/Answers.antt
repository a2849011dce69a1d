use Rattle.std.proofs.Common.{arith}
use Rattle.sz_cell.proofs.Regions.{place_inside}
use Rattle.sz_cell.proofs.standing.Standing.payload_place.Goals as goal

pub overflow_add-result : goal.overflow_add-result
overflow_add-result c =
    let s = c.self.inside in
    let inside = place_inside s.region.at s.region.capacity s.slot c.self.invariant.0 in
    omega (arith, c.place.ensures, inside.1, c.self.invariant.1)

pub returns-clause-inside : goal.returns-clause-inside
returns-clause-inside c =
    let s = c.self.inside in
    let inside = place_inside s.region.at s.region.capacity s.slot c.self.invariant.0 in
    rw (← c.self.view_is) (omega (arith, c.place.ensures, inside.1, c.self.invariant.2))
