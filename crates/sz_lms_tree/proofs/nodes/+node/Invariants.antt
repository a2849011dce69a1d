use Rattle.sz_lms_tree.proofs.nodes.+node.Given as goal

abbrev pub decreases-node : goal.decreases-node
decreases-node l = l.below
