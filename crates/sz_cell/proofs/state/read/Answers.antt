use Rattle.std.proofs.Common.{◌≡◌, ◌+◌, ◌∙◌, ap, arith}
use Rattle.std.proofs.lemmas.Result.{on_ok_weaker}
use Rattle.sz_cell.specs.Cell.{Kept}
use Rattle.sz_cell.specs.Slot.{place, header_size}
use Rattle.sz_cell.proofs.ReadBack.{payload_read}
use Rattle.sz_cell.proofs.state.read.Goals as goal

pub returns-clause-payload : goal.returns-clause-payload
returns-clause-payload g c payload ready =
    let kept = c.args.ready.now in
    let is : c.payload_place-place.result ≡ place kept.at kept.capacity kept.slot + header_size =
    c.payload_place-place.ensures.place ∙ ap (λ (k : Kept). place k.at k.capacity k.slot + header_size) c.ready.view_is in
    on_ok_weaker c.read.result
    (λ gives. payload_read _ (g.met.D.Disk.lawful c.args.disk.now) kept payload c.read.new.into ready c.requires.within
    (omega (arith, c.requires.length)) (rw is at gives))
    c.read.ensures.bytes
