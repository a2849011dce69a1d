use Rattle.std.proofs.lemmas.Result.{IfOk-weaker}
use Rattle.sz_cms.proofs.WrittenParts.{content_alone}
use Rattle.sz_cms.proofs.writing.encapsulated.Goals as goal

pub returns-in-None : goal.returns-in-None
returns-in-None c = rw c.in-None.is (IfOk-weaker c.item-in-None.result _ _
    (λ bytes item. content_alone c.args.kind.now c.in_ok-identifier.identifier bytes c.in_ok-identifier.ensures (rw c.as_slice.ensures at item))
    c.item-in-None.ensures)
