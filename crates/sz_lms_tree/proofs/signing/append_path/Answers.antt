use Rattle.std.proofs.Common.{◌≡◌, ℕ, ◌+◌, ◌/◌, ◌^◌, ◌++◌, List, [], get_or, ap₂, arith, ap, ◌∙◌, shr-shr}
use Rattle.sz_lms_tree.specs.Tree.{node_of, sibling}
use Rattle.sz_lms_tree.specs.Kept.{place_of}
use Rattle.sz_lms_tree.specs.View.{tree_secret}
use Rattle.sz_lms_tree.proofs.Lists.{joined-more}
use Rattle.sz_lms_tree.proofs.Keeping.{sibling_at, place-sibling, kept-sibling}
use Rattle.sz_lms_tree.proofs.signing.append_path.Goals as goal

pub bounds-nodes-node_place : goal.bounds-nodes-node_place
bounds-nodes-node_place c =
    let secret = tree_secret c.args.secret.now in
    let place : c.node_place.result ≡ place_of secret (sibling_at secret c.args.q c.loop.counter) =
    c.node_place.ensures ∙ ap (place_of secret) (c.sibling_of.ensures ∙ ap sibling c.loop.invariant.at) in
    rw place (place-sibling secret c.args.nodes.now c.args.q c.loop.counter c.requires.kept (omega arith) c.requires.is_leaf)

pub loop-preserved : goal.loop-preserved
loop-preserved c =
    let secret = tree_secret c.args.secret.now in
    let n = c.loop.counter in
    let leaf = 2 ^ secret.height + c.args.q in
    let value = λ (m : ℕ). node_of secret m (sibling (leaf / 2 ^ m)) in
    let place : c.node_place.result ≡ place_of secret (sibling_at secret c.args.q n) =
    c.node_place.ensures ∙ ap (place_of secret) (c.sibling_of.ensures ∙ ap sibling c.loop.invariant.at) in
    let node = kept-sibling secret c.args.nodes.now c.args.q n [] c.requires.kept (omega arith) c.requires.is_leaf in
    record {
      at = ap (λ (x : ℕ). x / 2) c.loop.invariant.at ∙ shr-shr leaf n 1;
      out =
          c.in_ok-append_value.ensures
          ∙ ap₂ (λ (front last : List ℕ). front ++ last) c.loop.invariant.out (ap (λ (p : ℕ). get_or c.args.nodes.now p []) place ∙ node)
          ∙ joined-more value c.args.out.now.items n;
    }
