use Rattle.std.proofs.Common.{◌≡◌, ℕ, ◌-◌, ◌^◌, ◌++◌, ap, ap₂, ◌∙◌, arith}
use Rattle.std.specs.Int.{w16, w32, to_be_bytes}
use Rattle.sz_lms.specs.Ots.{OtsType, D_PBLC, hashed}
use Rattle.sz_lms_tree.specs.Tree.{chain_value, one_time_key, ots_of}
use Rattle.sz_lms_tree.specs.View.{tree_secret}
use Rattle.sz_lms_tree.proofs.Lists.{joined, joined-more}
use Rattle.sz_lms_tree.proofs.Types.{known_width}
use Rattle.sz_lms_tree.proofs.nodes.one_time_key.Goals as goal

pub loop-i-preserved : goal.loop-i-preserved
loop-i-preserved c =
    let value = λ (i : ℕ). chain_value (tree_secret c.args.secret.now) c.args.q i c.last_digit-steps.result in
    let more = joined-more value (c.args.secret.now.id ++ to_be_bytes w32 c.args.q ++ to_be_bytes w16 D_PBLC) c.loop-i.i in
    rw (← more, ← c.chain_value.ensures) (c.update.ensures _ c.loop-i.invariant)

pub returns : goal.returns
unfolding one_time_key
returns c =
    let secret = tree_secret c.args.secret.now in
    let kind = c.one_time_type-kind.ensures in
    let steps : c.last_digit-steps.result ≡ 2 ^ secret.width - 1 =
    c.last_digit-steps.ensures ∙ ap (λ (t : OtsType). 2 ^ t.width - 1) kind ∙ ap (λ (w : ℕ). 2 ^ w - 1) (known_width secret.width c.requires).width_is in
    let last : c.loop-i.i ≡ c.chains-i-end.result = omega arith in
    let count : c.loop-i.i ≡ (ots_of secret.width).chains = last ∙ c.chains-i-end.ensures ∙ ap (λ (t : OtsType). t.chains) kind in
    c.finalize.ensures _ c.loop-i.invariant
    ∙ ap₂ (λ (n k : ℕ). hashed secret.id c.args.q D_PBLC (joined (λ i. chain_value secret c.args.q i n) k)) steps count
