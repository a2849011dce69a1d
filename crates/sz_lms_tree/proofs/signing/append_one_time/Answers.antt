use Rattle.std.proofs.Common.{◌≡◌, ◌++◌, ℕ, List, ap, ap₂, ◌∙◌}
use Rattle.std.specs.Int.{w32, to_be_bytes}
use Rattle.std.specs.List.{concat}
use Rattle.sz_lms.specs.Bits.{digit}
use Rattle.sz_lms.specs.Ots.{OtsType, message_digest, signed_bytes}
use Rattle.sz_lms_tree.specs.Tree.{chain_values, one_time_of, signed_of}
use Rattle.sz_lms_tree.specs.View.{tree_secret}
use Rattle.sz_lms_tree.proofs.Lists.{put_three, OnOk-then}
use Rattle.sz_lms_tree.proofs.signing.append_one_time.Goals as goal

pub returns : goal.returns
unfolding one_time_of
returns c =
    let secret = tree_secret c.args.secret.now in
    let digest = c.message_digest-digest.ensures
    ∙ ap (λ (r : List ℕ). message_digest secret.id c.args.q r c.args.message.now) c.randomizer-randomizer.ensures in
    let signed : c.signed_bytes-signed.result ≡ signed_of secret c.args.q c.args.message.now =
    c.signed_bytes-signed.ensures ∙ ap₂ (λ (t : OtsType) (bytes : List ℕ). signed_bytes t bytes) c.one_time_type.ensures digest in
    OnOk-then c.append_chains.result _ _
    (λ chains. put_three c.args.out.now.items c.append_number.new.out.items c.append_value.new.out.items c.append_chains.new.out.items _ _ _
    (c.in_ok-append_number.ensures ∙ ap (λ (n : ℕ). c.args.out.now.items ++ to_be_bytes w32 n) c.one_time_code.ensures)
    (c.in_ok-append_value.ensures ∙ ap (λ (r : List ℕ). c.append_number.new.out.items ++ r) c.randomizer-randomizer.ensures)
    (chains ∙ ap (λ (s : List ℕ). c.append_value.new.out.items ++ concat (chain_values secret c.args.q (digit secret.width s))) signed))
    c.append_chains.ensures
