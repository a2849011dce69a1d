use Rattle.sz_cell.proofs.Regions.{spare_inside}
use Rattle.sz_cell.proofs.standing.Standing.spare_place.Goals as goal

pub returns-clause-inside : goal.returns-clause-inside
returns-clause-inside c = (spare_inside c.args.self.now).1
