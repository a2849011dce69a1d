use Rattle.std.proofs.Common.{◌≡◌, ◌+◌, ◌*◌, ◌≤◌, drop}
use Rattle.sz_hss.specs.Leaf.{heights_of}
use Rattle.sz_hss.specs.View.{shapes_of}
use Rattle.sz_hss.proofs.level.heights_of.Given as goal

-- what is left gives the rest of the sum
abbrev pub invariant-loop-level : goal.invariant-loop-level
invariant-loop-level l = record {
  done : l.heights + heights_of (drop l.level-index (shapes_of l.levels)) ≡ heights_of (shapes_of l.levels);
  small : l.heights ≤ 255 * l.level-index;
}
