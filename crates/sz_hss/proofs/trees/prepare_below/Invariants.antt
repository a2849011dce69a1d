use Rattle.std.proofs.Common.{◌≡◌, ◌≤◌, ◌++◌, drop}
use Rattle.sz_lms_tree.specs.Tree.{IsAllowed}
use Rattle.sz_lms_tree.specs.View.{tree_secret}
use Rattle.sz_hss.specs.Built.{IsTreeAt}
use Rattle.sz_hss.specs.Leaf.{heights_of, lowest_at}
use Rattle.sz_hss.specs.Signature.{front_of, pairs_of}
use Rattle.sz_hss.specs.View.{shapes_of}
use Rattle.sz_hss.proofs.trees.prepare_below.Given as goal

-- the tree at the place is the one that n goes through, and what is left gives the rest of the front
abbrev pub invariant-loop-i : goal.invariant-loop-i
invariant-loop-i g l = record {
  tree : IsTreeAt l.trees.items l.i (tree_secret l.secret);
  allowed : IsAllowed (tree_secret l.secret);
  heights : l.heights ≡ heights_of (drop l.i (shapes_of l.below));
  few : l.heights ≤ 45;
  front : l.out.items ++ pairs_of (tree_secret l.secret) (drop l.i (shapes_of l.below)) l.n ≡ front_of l.key l.n;
  lowest : lowest_at (tree_secret l.secret) (drop l.i (shapes_of l.below)) l.n ≡ lowest_at l.key.top l.key.below l.n;
}
