use Rattle.std.proofs.Common.{[], ◌∷◌, ◌≡◌}
use Rattle.sz_record.specs.Size.{size_of}
use Rattle.sz_record.specs.Spelling.{committed_bytes, device_bytes, identity_bytes, image_bytes, new_version, optional_bytes, record_bytes, text_bytes}
use Rattle.sz_record.proofs.Totals.{total_is}
use Rattle.sz_record.proofs.sizes.installed_size.Goals as goal

pub returns : goal.returns
unfolding device_bytes record_bytes optional_bytes
returns c = λ image hash when evidence.
    let sized : c.image_size.result ≡ size_of (image_bytes new_version image) = c.image_size.ensures image hash when evidence in
    total_is _ (
    1
    ∷ c.identity_size.result
    ∷ c.text_size.result
    ∷ c.text_size-2.result
    ∷ 1
    ∷ c.image_size.result
    ∷ c.optional_committed_size.result
    ∷ []) (
    (new_version ∷ [])
    ∷ identity_bytes c.args.device.now.identity
    ∷ text_bytes c.args.name.now
    ∷ text_bytes c.args.version.now
    ∷ (1 ∷ [])
    ∷ image_bytes new_version image
    ∷ optional_bytes (committed_bytes new_version) c.args.device.now.onboarded
    ∷ []) c.total.ensures (cc)
