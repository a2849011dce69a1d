use Rattle.std.proofs.Common.{◌++◌}
use Rattle.std.specs.Int.{w16, w32, to_be_bytes}
use Rattle.sha2.specs.Hashers.{Holds256}
use Rattle.sz_lms.specs.Ots.{D_PBLC}
use Rattle.sz_lms_tree.specs.Tree.{chain_value}
use Rattle.sz_lms_tree.specs.View.{tree_secret}
use Rattle.sz_lms_tree.proofs.Lists.{joined}
use Rattle.sz_lms_tree.proofs.nodes.one_time_key.Given as goal

-- the ends of the chains so far are hashed
abbrev pub invariant-loop-i : goal.invariant-loop-i
invariant-loop-i l =
    Holds256 l.hasher ((l.secret.id ++ to_be_bytes w32 l.q ++ to_be_bytes w16 D_PBLC) ++ joined (λ i. chain_value (tree_secret l.secret) l.q i l.steps) l.i)
