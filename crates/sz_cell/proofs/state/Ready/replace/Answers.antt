use Rattle.std.proofs.Common.{◌≡◌, ◌+◌, Err, ◌∷◌, length, ◌∙◌, ap, arith}
use Rattle.std.proofs.lemmas.Result.{err_from_is_err_and}
use Rattle.sz_disk.proofs.Moments.{torn-torn}
use Rattle.sz_cell.specs.Cell.{Pending, spare_place}
use Rattle.sz_cell.specs.Slot.{open_gate, spelled}
use Rattle.sz_cell.specs.declared.fault.ClearFault.TheVariants.{Exhausted}
use Rattle.sz_cell.proofs.Regions.{spare_inside}
use Rattle.sz_cell.proofs.Slots.{length-spelled}
use Rattle.sz_cell.proofs.Writes.{writes-refused, torn-gate, torn-behind, closes-reads, wrote-gate, wrote-over}
use Rattle.sz_cell.proofs.state.Ready.replace.Goals as goal

pub returns-in_err-cleared-clause-exhausted : goal.returns-in_err-cleared-clause-exhausted
returns-in_err-cleared-clause-exhausted g c sequence =
    let from = err_from_is_err_and c.from_residual.result c.from_residual.ensures.1 in
    let exact = c.in_err-cleared.ensures.exhausted sequence in (
      λ is. let fault : c.in_err-cleared.field-0.0 ≡ Exhausted sequence = cc (from.1, from.2, is) in exact.0 (ap Err fault),
      λ last. let fault = exact.1 last in cc (from.1, from.2, fault),
    )

pub returns-in_err-cleared-clause-wrote : goal.returns-in_err-cleared-clause-wrote
returns-in_err-cleared-clause-wrote g c =
    writes-refused _ _ _ _ c.from_residual.result c.from_residual.ensures.0
    (torn-gate _ open_gate (spelled (c.args.self.sequence + 1) c.args.payload.now) _ _ c.in_err-cleared.ensures.closes.elsewhere)

pub returns-in_err-filled-clause-wrote : goal.returns-in_err-filled-clause-wrote
returns-in_err-filled-clause-wrote g c =
    let bytes = spelled (c.args.self.sequence + 1) c.args.payload.now in
    let cleared = torn-gate _ open_gate bytes _ _ c.in_ok-cleared.ensures.closes.elsewhere in
    let filled = torn-behind _ open_gate bytes _ _ (rw c.in_ok-cleared.ensures.same at c.fill.ensures.wrote.elsewhere) in
    writes-refused _ _ _ _ c.from_residual-in_err-filled.result c.from_residual-in_err-filled.ensures.0
    (torn-torn _ _ _ (g.D.Disk.seen c.clear.new.disk) _ cleared filled)

pub returns-in_err-ready-clause-wrote : goal.returns-in_err-ready-clause-wrote
returns-in_err-ready-clause-wrote g c =
    let bytes = spelled (c.args.self.sequence + 1) c.args.payload.now in
    let cleared = torn-gate _ open_gate bytes _ _ c.in_ok-cleared.ensures.closes.elsewhere in
    let filled = torn-behind _ open_gate bytes _ _ (rw c.in_ok-cleared.ensures.same at c.fill.ensures.wrote.elsewhere) in
    let here = ap (λ (p : Pending). spare_place p.kept) c.in_ok-filled.ensures.same ∙ ap spare_place c.in_ok-cleared.ensures.same in
    let published = torn-gate _ open_gate bytes _ _ (rw here at c.publish.ensures.wrote.elsewhere) in
    writes-refused _ _ _ _ c.from_residual-in_err-ready.result c.from_residual-in_err-ready.ensures.0
    (torn-torn _ _ _ (g.D.Disk.seen c.fill.new.disk) _ (torn-torn _ _ _ (g.D.Disk.seen c.clear.new.disk) _ cleared filled) published)

pub returns-clause-wrote : goal.returns-clause-wrote
returns-clause-wrote g c =
    let kept = c.args.self in
    let bytes = spelled (kept.sequence + 1) c.args.payload.now in
    let first = g.D.Disk.seen c.args.disk.now in
    let middle = g.D.Disk.seen c.clear.new.disk in
    let then = g.D.Disk.seen c.fill.new.disk in
    let last = g.D.Disk.seen c.publish.new.disk in
    let lawful = g.met.D.Disk.lawful c.args.disk.now in
    let inside = spare_inside kept in
    let fill_wrote = rw c.in_ok-cleared.ensures.same at c.in_ok-filled.ensures.wrote in
    let here = ap (λ (p : Pending). spare_place p.kept) c.in_ok-filled.ensures.same ∙ ap spare_place c.in_ok-cleared.ensures.same in
    let publish_wrote = rw here at c.in_ok-ready.ensures.wrote in
    let closed = closes-reads (spare_place kept) (length (open_gate ∷ bytes)) first middle c.in_ok-cleared.cleared lawful (omega arith)
    (omega (arith, inside, c.requires.within)) c.in_ok-cleared.ensures.closes in
    let both = wrote-gate (spare_place kept) open_gate bytes middle then last (g.met.D.Disk.lawful c.clear.new.disk)
    (omega (
      arith,
      inside,
      c.requires.within,
      c.requires.fits,
      length-spelled (kept.sequence + 1) c.args.payload.now,
      c.in_ok-cleared.ensures.closes.elsewhere.size,
    ))
    fill_wrote.ok publish_wrote.ok in
    record {
      ok = wrote-over (spare_place kept) (open_gate ∷ bytes) first middle last closed both;
      elsewhere =
          let cleared = torn-gate _ open_gate bytes first middle c.in_ok-cleared.ensures.closes.elsewhere in
          let filled = torn-behind _ open_gate bytes middle then fill_wrote.elsewhere in
          let published = torn-gate _ open_gate bytes then last publish_wrote.elsewhere in
          torn-torn _ _ first then last (torn-torn _ _ first middle then cleared filled) published;
    }
