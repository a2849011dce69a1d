use Rattle.std.proofs.Common.{◌≡◌, ◌+◌, ◌/◌, ◌^◌, ◌++◌}
use Rattle.sz_lms_tree.specs.Tree.{node_of, sibling}
use Rattle.sz_lms_tree.specs.View.{tree_secret}
use Rattle.sz_lms_tree.proofs.Lists.{joined}
use Rattle.sz_lms_tree.proofs.signing.append_path.Given as goal

-- so many siblings are there, and r is the node above the last one
abbrev pub invariant-loop : goal.invariant-loop
invariant-loop l =
    let secret = tree_secret l.secret in
    let leaf = 2 ^ secret.height + l.q in
    record {
      at : l.r ≡ leaf / 2 ^ l.counter;
      out : l.out.items ≡ l.initial.out.items ++ joined (λ n. node_of secret n (sibling (leaf / 2 ^ n))) l.counter;
    }
