use Rattle.std.proofs.Common.{◌≡◌, ℕ, ◌+◌, ◌-◌, arith, subst, sym, pow_pos}
use Rattle.sz_lms_tree.specs.Kept.{KeepsFrom}
use Rattle.sz_lms_tree.specs.View.{tree_secret}
use Rattle.sz_lms_tree.proofs.Keeping.{KeepsFrom-leaves, KeepsFrom-more}
use Rattle.sz_lms_tree.proofs.kept.push_inner.Goals as goal

pub loop-r-init : goal.loop-r-init
loop-r-init c =
    let secret = tree_secret c.args.secret.now in
    record {
      kept = subst (λ (n : ℕ). KeepsFrom n secret c.args.nodes.now.items) (sym c.leaf_count-r.ensures)
          (KeepsFrom-leaves secret c.args.nodes.now.items c.requires.leaves);
      positive = omega (arith, pow_pos secret.height);
      inner = omega arith;
    }

pub loop-r-preserved : goal.loop-r-preserved
loop-r-preserved c =
    let secret = tree_secret c.args.secret.now in
    let r = c.loop-r.r - 1 in
    let low : c.loop-r.r ≡ r + 1 = omega arith in
    let kept = subst (λ (n : ℕ). KeepsFrom n secret c.loop-r.nodes.items) low c.loop-r.invariant.kept in
    record {
      kept = rw c.in_ok-push.ensures.items (KeepsFrom-more secret r c.loop-r.nodes.items _ kept c.parent.ensures);
      positive = omega arith;
      inner = omega arith;
    }

pub returns : goal.returns
returns c =
    let top : c.loop-r.r ≡ 1 = omega arith in
    subst (λ (n : ℕ). KeepsFrom n (tree_secret c.args.secret.now) c.loop-r.nodes.items) top c.loop-r.invariant.kept
