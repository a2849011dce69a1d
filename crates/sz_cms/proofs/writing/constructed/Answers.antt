use Rattle.std.proofs.Common.{◌∙◌, sym}
use Rattle.sz_cms.proofs.WrittenParts.{concat_next}
use Rattle.sz_cms.proofs.writing.constructed.Goals as goal

pub loop-part-preserved : goal.loop-part-preserved
loop-part-preserved c =
    c.in_ok-append.ensures.ok ∙ rw c.loop-part.invariant (sym (concat_next (λ part. part.now) c.args.parts.now c.loop-part.part-index _ c.loop-part-test.true))
