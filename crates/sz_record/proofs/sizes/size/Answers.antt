use Rattle.std.proofs.Common.{[], ◌∷◌}
use Rattle.sz_record.specs.Spelling.{committed_bytes, device_bytes, identity_bytes, image_bytes, new_version, optional_bytes, record_bytes, text_bytes}
use Rattle.sz_record.proofs.Totals.{total_is}
use Rattle.sz_record.proofs.sizes.size.Goals as goal

pub returns : goal.returns
unfolding device_bytes record_bytes
returns c =
    total_is _ (
    1
    ∷ c.identity_size.result
    ∷ c.text_size.result
    ∷ c.text_size-2.result
    ∷ c.optional_image_size.result
    ∷ c.optional_committed_size.result
    ∷ []) (
    (new_version ∷ [])
    ∷ identity_bytes c.args.device.now.identity
    ∷ text_bytes c.args.device.now.running_name
    ∷ text_bytes c.args.device.now.running_version
    ∷ optional_bytes (image_bytes new_version) c.args.device.now.image
    ∷ optional_bytes (committed_bytes new_version) c.args.device.now.onboarded
    ∷ []) c.total.ensures (cc)
