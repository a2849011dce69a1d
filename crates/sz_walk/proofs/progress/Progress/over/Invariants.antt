use Rattle.std.proofs.Common.{◌≡◌, ◌++◌, drop}
use Rattle.sz_walk.specs.Visits.{first_entries, first_from}
use Rattle.sz_walk.proofs.progress.Progress.over.Given as goal

abbrev pub invariant-loop-number : goal.invariant-loop-number
invariant-loop-number l = l.left.items ++ first_from l.number (drop l.number l.sources) ≡ first_entries l.sources
