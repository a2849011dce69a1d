use Rattle.std.proofs.Common.{ap, [], ◌∷◌, ◌++◌, ◌∙◌}
use Rattle.sz_record.specs.Spelling.{committed_bytes, handling_number}
use Rattle.sz_record.proofs.Appending.{adds, then_appended, then_last}
use Rattle.sz_record.proofs.writing.put_committed.Goals as goal

pub returns : goal.returns
unfolding committed_bytes
returns c =
    record {
      ok = then_appended c.put_optional_long-3.result _ _ c.in_ok-put_moment.ensures.ok
          (then_appended c.put_optional_long-3.result _ _ c.in_ok-put_evidence.ensures.ok
          (then_appended c.put_optional_long-3.result _ _ (adds c.put_evidence.new.out (handling_number c.args.committed.now.handling ∷ []) _
          (c.in_ok-push.ensures.ok ∙ ap (λ n. c.put_evidence.new.out ++ n ∷ []) c.handling_number.ensures))
          (then_appended c.put_optional_long-3.result _ _ c.in_ok-put_optional_long.ensures.ok
          (then_appended c.put_optional_long-3.result _ _ c.in_ok-put_optional_long-2.ensures.ok
          (then_last c.put_optional_long-3.result _ _ _ c.put_optional_long-3.ensures.ok)))));
    }
