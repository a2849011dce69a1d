use Rattle.std.proofs.Common.{◌≡◌, ℕ, ◌+◌, ◌-◌, arith, subst}
use Rattle.sz_lms_tree.specs.Kept.{AreLeaves}
use Rattle.sz_lms_tree.specs.View.{tree_secret}
use Rattle.sz_lms_tree.proofs.Keeping.{AreLeaves-none, AreLeaves-more}
use Rattle.sz_lms_tree.proofs.kept.push_leaves.Goals as goal

pub loop-q-init : goal.loop-q-init
loop-q-init c =
    let secret = tree_secret c.args.secret.now in
    let none : c.args.end - c.args.end ≡ 0 = omega arith in
    record {
      leaves = rw c.requires.empty (rw none (AreLeaves-none secret c.args.end));
      from_on = omega arith;
    }

pub loop-q-preserved : goal.loop-q-preserved
loop-q-preserved c =
    let secret = tree_secret c.args.secret.now in
    let q = c.loop-q.q - 1 in
    let low : c.loop-q.q ≡ q + 1 = omega arith in
    let more : c.args.end - q ≡ c.args.end - (q + 1) + 1 = omega arith in
    let leaves = subst (λ (n : ℕ). AreLeaves secret n (c.args.end - n) c.loop-q.nodes.items) low c.loop-q.invariant.leaves in
    record {
      leaves = rw (c.in_ok-push.ensures.items, c.leaf.ensures, more) (AreLeaves-more secret q (c.args.end - (q + 1)) c.loop-q.nodes.items leaves);
      from_on = omega arith;
    }

pub returns : goal.returns
returns c =
    let first : c.loop-q.q ≡ c.args.from = omega arith in
    subst (λ (n : ℕ). AreLeaves (tree_secret c.args.secret.now) n (c.args.end - n) c.loop-q.nodes.items) first c.loop-q.invariant.leaves
