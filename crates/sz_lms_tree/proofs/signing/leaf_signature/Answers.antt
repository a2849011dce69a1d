use Rattle.std.proofs.Common.{ℕ, ◌++◌, List, ap, ◌∙◌}
use Rattle.std.specs.Int.{w32, to_be_bytes}
use Rattle.sz_lms_tree.specs.Tree.{signature_of}
use Rattle.sz_lms_tree.proofs.Lists.{put_four}
use Rattle.sz_lms_tree.proofs.signing.leaf_signature.Goals as goal

pub returns : goal.returns
unfolding signature_of
returns c =
    put_four c.append_number.new.out.items c.append_one_time.new.out.items c.append_number-2.new.out.items c.append_path.new.out.items _ _ _ _
    (c.in_ok-append_number.ensures ∙ ap (λ (front : List ℕ). front ++ to_be_bytes w32 c.args.q) c.in_ok-out.ensures.items)
    c.in_ok-append_one_time.ensures
    (c.in_ok-append_number-2.ensures ∙ ap (λ (n : ℕ). c.append_one_time.new.out.items ++ to_be_bytes w32 n) c.tree_code.ensures)
    c.in_ok-append_path.ensures
