use Rattle.sz_record.specs.Spelling.{identity_bytes, text_bytes}
use Rattle.sz_record.proofs.Appending.{part_of, then_appended, then_last}
use Rattle.sz_record.proofs.writing.put_identity.Goals as goal

pub returns : goal.returns
unfolding identity_bytes
returns c =
    record {
      ok = then_appended c.put_anchors.result _ _ (part_of text_bytes c.as_slice.ensures.bytes c.in_ok-put_text.ensures.ok)
          (then_appended c.put_anchors.result _ _ (part_of text_bytes c.as_slice-2.ensures c.in_ok-put_text-2.ensures.ok)
          (then_appended c.put_anchors.result _ _ (part_of text_bytes c.as_slice-3.ensures c.in_ok-put_text-3.ensures.ok)
          (then_last c.put_anchors.result _ _ _ c.put_anchors.ensures.ok)));
    }
