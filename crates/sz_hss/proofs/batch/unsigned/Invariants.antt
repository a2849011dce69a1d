use Rattle.std.proofs.Common.{◌-◌, ◌≤◌, vec_len}
use Rattle.sz_hss.proofs.batch.unsigned.Given as goal

-- no more than so many
abbrev pub invariant-items : goal.invariant-items
invariant-items l = vec_len l.all ≤ l.count

abbrev pub decreases-items : goal.decreases-items
decreases-items l = l.count - vec_len l.all
