use Rattle.sz_lms_tree.specs.View.{tree_secret}
use Rattle.sz_lms_tree.proofs.Keeping.{inner-is}
use Rattle.sz_lms_tree.proofs.kept.parent.Goals as goal

pub returns : goal.returns
returns c n at =
    let is = inner-is (tree_secret c.args.secret.now) c.args.r c.args.nodes.now c.requires.kept c.requires.positive c.requires.inner in
    rw (c.hashed_children.ensures, c.node_place.ensures, c.node_place-2.ensures) (is _ _ n at)
