use Rattle.std.proofs.Common.{◌+◌, ◌*◌}
use Rattle.sz_lms_tree.proofs.halves.+halves.Given as goal

abbrev pub decreases-leaves_from : goal.decreases-leaves_from
decreases-leaves_from g l = 2 * l.count

abbrev pub decreases-left : goal.decreases-left
decreases-left g l = 2 * l.low + 1

abbrev pub decreases-right : goal.decreases-right
decreases-right g l = 2 * l.high + 1
