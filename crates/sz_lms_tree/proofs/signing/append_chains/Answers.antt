use Rattle.std.proofs.Common.{◌≡◌, ℕ, ◌++◌, List, ap, ap₂, ◌∙◌}
use Rattle.sz_lms.specs.Bits.{digit}
use Rattle.sz_lms.specs.Ots.{OtsType}
use Rattle.sz_lms_tree.specs.Tree.{chain_value}
use Rattle.sz_lms_tree.specs.View.{tree_secret}
use Rattle.sz_lms_tree.proofs.Lists.{joined-more}
use Rattle.sz_lms_tree.proofs.Types.{known_width}
use Rattle.sz_lms_tree.proofs.signing.append_chains.Goals as goal

pub loop-i-preserved : goal.loop-i-preserved
loop-i-preserved c =
    let secret = tree_secret c.args.secret.now in
    let signed = c.args.signed.now in
    let i = c.loop-i.i in
    let value = λ (k : ℕ). chain_value secret c.args.q k (digit secret.width signed k) in
    let steps : c.digit-steps.result ≡ digit secret.width signed i =
    c.digit-steps.ensures.value
    ∙ ap (λ (t : OtsType). digit t.width signed i) c.one_time_type-kind.ensures
    ∙ ap (λ (w : ℕ). digit w signed i) (known_width secret.width c.requires).width_is in
    let chain = c.chain_value.ensures ∙ ap (chain_value secret c.args.q i) steps in
    c.in_ok-extend_from_slice.ensures.items
    ∙ ap₂ (λ (front last : List ℕ). front ++ last) c.loop-i.invariant chain
    ∙ joined-more value c.args.out.now.items i
