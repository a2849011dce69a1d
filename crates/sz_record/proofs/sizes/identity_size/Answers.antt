use Rattle.std.proofs.Common.{[], ◌∷◌}
use Rattle.sz_record.specs.Spelling.{anchors_bytes, identity_bytes, text_bytes}
use Rattle.sz_record.proofs.Totals.{total_is}
use Rattle.sz_record.proofs.sizes.identity_size.Goals as goal

pub returns : goal.returns
unfolding identity_bytes
returns c =
    total_is _ (
    c.text_size.result
    ∷ c.text_size-2.result
    ∷ c.text_size-3.result
    ∷ c.anchors_size.result
    ∷ []) (
    text_bytes c.args.identity.now.serial
    ∷ text_bytes c.args.identity.now.os_name
    ∷ text_bytes c.args.identity.now.os_version
    ∷ anchors_bytes c.args.identity.now.anchors
    ∷ []) c.total.ensures (cc)
