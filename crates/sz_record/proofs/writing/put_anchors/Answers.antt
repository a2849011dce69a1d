use Rattle.std.proofs.Common.{ap, [], ◌∷◌, ◌++◌, ◌∙◌, arith, length}
use Rattle.sz_record.proofs.Appending.{anchors_appended}
use Rattle.sz_record.proofs.writing.put_anchors.Goals as goal

pub returns : goal.returns
returns c =
    record {
      ok = anchors_appended _ _ _ _ _ (c.in_ok-push.ensures.ok ∙ ap (λ n. c.args.out.now ++ n ∷ []) c.len.ensures)
          c.loop-anchor.invariant
          (omega (arith, c.loop-anchor-test.false, ap (λ s. length s) c.as_slice-anchor-items.ensures));
    }
