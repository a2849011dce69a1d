use Rattle.std.proofs.Common.{◌≤◌, ◌-◌}
use Rattle.sz_lms_tree.specs.Kept.{AreLeaves}
use Rattle.sz_lms_tree.specs.View.{tree_secret}
use Rattle.sz_lms_tree.proofs.kept.push_leaves.Given as goal

-- the leaves from q on are there
abbrev pub invariant-loop-q : goal.invariant-loop-q
invariant-loop-q l = record {
  leaves : AreLeaves (tree_secret l.secret) l.q (l.end - l.q) l.nodes.items;
  from_on : l.from ≤ l.q;
}
