use Rattle.std.proofs.Common.{◌∙◌, sym}
use Rattle.sz_cms.proofs.WrittenParts.{concat_more}
use Rattle.sz_cms.proofs.writing.joined.Goals as goal

pub loop-item-preserved : goal.loop-item-preserved
loop-item-preserved c =
    let item = c.as_slice.ensures ∙ c.item-item.is in
    c.in_ok-append.ensures.ok ∙ rw (c.loop-item.invariant, item)
    (sym (concat_more c.as_slice-item-items.result.now c.loop-item.item-index c.item-item.result c.loop-item-test.true))
