use Rattle.std.proofs.Common.{◌≤◌, ◌^◌}
use Rattle.sz_lms_tree.specs.Kept.{KeepsFrom}
use Rattle.sz_lms_tree.specs.View.{tree_secret}
use Rattle.sz_lms_tree.proofs.kept.push_inner.Given as goal

-- the nodes from r on are kept
abbrev pub invariant-loop-r : goal.invariant-loop-r
invariant-loop-r l = record {
  kept : KeepsFrom l.r (tree_secret l.secret) l.nodes.items;
  positive : 1 ≤ l.r;
  inner : l.r ≤ 2 ^ l.secret.height;
}
