-- The children of a node are nodes one level down.
use Rattle.std.proofs.Common.{◌≡◌, ℕ, suc, ◌-◌, arith, subst}
use Rattle.sz_lms_tree.specs.Places.{IsNodeAt}
use Rattle.sz_lms_tree.proofs.Places.{IsNodeAt-left, IsNodeAt-right}
use Rattle.sz_lms_tree.proofs.nodes.+node.Goals as goal

pub node-left-requires : goal.node-left-requires
node-left-requires t c =
    let e : c.args.below ≡ suc (c.args.below - 1) = omega arith in
    let at = subst (λ (n : ℕ). IsNodeAt c.args.secret.now.height n c.args.r) e c.requires.place in
    (omega arith, (c.requires.height, (c.requires.width, IsNodeAt-left _ _ _ at)))

pub node-right-requires : goal.node-right-requires
node-right-requires t c =
    let e : c.args.below ≡ suc (c.args.below - 1) = omega arith in
    let at = subst (λ (n : ℕ). IsNodeAt c.args.secret.now.height n c.args.r) e c.requires.place in
    (omega arith, (c.requires.height, (c.requires.width, IsNodeAt-right _ _ _ at)))
