use Rattle.std.proofs.Common.{◌≡◌, ◌≤◌, ◌+◌, ◌++◌, length, map, reverse, vec_len}
use Rattle.std.specs.Vec.{vec_capacity}
use Rattle.sz_walk.specs.Visits.{entry_at}
use Rattle.sz_walk.proofs.progress.put_in_front.Given as goal

abbrev pub invariant-loop-target : goal.invariant-loop-target
invariant-loop-target l = record {
  put : map (entry_at l.source l.depth) l.targets ++ reverse l.left.items
      ≡ map (entry_at l.source l.depth) l.fn.targets ++ reverse l.fn.left.items;
  room : vec_len l.left + length l.targets ≤ vec_capacity l.left;
}

abbrev pub decreases-loop-target : goal.decreases-loop-target
decreases-loop-target l = length l.targets
