use Rattle.std.proofs.Common.{◌≡◌, ◌++◌}
use Rattle.sz_lms.specs.Bits.{digit}
use Rattle.sz_lms_tree.specs.Tree.{chain_value}
use Rattle.sz_lms_tree.specs.View.{tree_secret}
use Rattle.sz_lms_tree.proofs.Lists.{joined}
use Rattle.sz_lms_tree.proofs.signing.append_chains.Given as goal

-- so many chains are there
abbrev pub invariant-loop-i : goal.invariant-loop-i
invariant-loop-i l =
    l.out.items ≡ l.initial.out.items ++ joined (λ i. chain_value (tree_secret l.secret) l.q i (digit l.secret.width l.signed i)) l.i
