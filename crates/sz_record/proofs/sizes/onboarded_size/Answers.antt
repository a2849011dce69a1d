use Rattle.std.proofs.Common.{[], ◌∷◌, ◌≡◌}
use Rattle.sz_record.specs.Size.{size_of}
use Rattle.sz_record.specs.declared.device.Committed.{Committed}
use Rattle.sz_record.specs.Spelling.{committed_bytes, device_bytes, identity_bytes, image_bytes, new_version, optional_bytes, record_bytes, text_bytes}
use Rattle.sz_record.proofs.Totals.{total_is}
use Rattle.sz_record.proofs.sizes.onboarded_size.Goals as goal

pub returns : goal.returns
unfolding device_bytes record_bytes optional_bytes
returns c = λ handling.
    let done : Committed = record {
      when = c.args.when.now;
      evidence = c.args.evidence.now;
      handling = handling;
      pre = c.args.pre.now;
      configuration = c.args.configuration.now;
      post = c.args.post.now;
    } in
    let sized : c.committed_size.result ≡ size_of (committed_bytes new_version done) = c.committed_size.ensures handling in
    total_is _ (
    1
    ∷ c.identity_size.result
    ∷ c.text_size.result
    ∷ c.text_size-2.result
    ∷ c.optional_image_size.result
    ∷ 1
    ∷ c.committed_size.result
    ∷ []) (
    (new_version ∷ [])
    ∷ identity_bytes c.args.device.now.identity
    ∷ text_bytes c.args.device.now.running_name
    ∷ text_bytes c.args.device.now.running_version
    ∷ optional_bytes (image_bytes new_version) c.args.device.now.image
    ∷ (1 ∷ [])
    ∷ committed_bytes new_version done
    ∷ []) c.total.ensures (cc)
