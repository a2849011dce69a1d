use Rattle.sz_record.specs.Spelling.{evidence_bytes, long_bytes}
use Rattle.sz_record.proofs.Appending.{part_of, then_appended, then_last}
use Rattle.sz_record.proofs.writing.put_evidence.Goals as goal

pub returns : goal.returns
unfolding evidence_bytes
returns c =
    record {
      ok = then_appended c.put_optional_long-2.result _ _ (part_of long_bytes c.as_slice.ensures c.in_ok-put_long.ensures.ok)
          (then_appended c.put_optional_long-2.result _ _ c.in_ok-put_optional_long.ensures.ok
          (then_last c.put_optional_long-2.result _ _ _ c.put_optional_long-2.ensures.ok));
    }
