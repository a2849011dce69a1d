use Rattle.std.proofs.Common.{[], ◌∷◌, ◌∙◌}
use Rattle.sz_record.specs.Spelling.{device_bytes, new_version, record_bytes, text_bytes}
use Rattle.sz_record.proofs.Appending.{adds, appended, last_appended, part_of, whole}
use Rattle.sz_record.proofs.writing.write.Goals as goal

pub returns : goal.returns
unfolding device_bytes record_bytes
returns c =
    whole c.from_vec-out.result _ _ (c.from_vec-out.ensures ∙ c.in_ok-with_capacity.ensures.items)
    (appended (adds c.from_vec-out.result (new_version ∷ []) _ c.in_ok-push.ensures.ok)
    (appended c.in_ok-put_identity.ensures.ok
    (appended (part_of text_bytes c.as_slice.ensures c.in_ok-put_text.ensures.ok)
    (appended (part_of text_bytes c.as_slice-2.ensures c.in_ok-put_text-2.ensures.ok)
    (appended c.in_ok-put_optional_image.ensures.ok (last_appended c.in_ok-put_optional_committed.ensures.ok))))))
