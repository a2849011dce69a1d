use Rattle.std.proofs.Common.{◌≡◌, Err, sym, ◌∙◌, subst, arith}
use Rattle.std.proofs.lemmas.Result.{err_from_is_err_and}
use Rattle.sz_disk.proofs.Moments.{length-read}
use Rattle.sz_cell.specs.Cell.{Kept}
use Rattle.sz_cell.specs.Header.{Judges}
use Rattle.sz_cell.specs.Meaning.{none, damaged}
use Rattle.sz_cell.specs.Transition.{IsAttached}
use Rattle.sz_cell.specs.declared.fault.AttachFault.{AttachFault}
use Rattle.sz_cell.specs.declared.fault.AttachFault.TheVariants.{NotFormatted, Damaged}
use Rattle.sz_cell.proofs.ReadBack.{header_told, read_means, meaning-headers, judged_stands, judged_found, attached}
use Rattle.sz_cell.proofs.reading.attach.Goals as goal

pub returns-in_err-found-clause-not_formatted : goal.returns-in_err-found-clause-not_formatted
returns-in_err-found-clause-not_formatted g c is =
    let from = err_from_is_err_and c.from_residual-in_err-found.result c.from_residual-in_err-found.ensures.1 in
    let fault : c.in_err-found.field-0.0 ≡ NotFormatted = cc (from.1, from.2, is) in
    let region = c.args.region in
    let judges = subst (λ (f : AttachFault). Judges region.capacity c.in_ok-first.first c.in_ok-first.second (Err f)) fault c.in_err-found.ensures in
    read_means region.at region.capacity (g.D.Disk.seen c.args.disk.now).reads none (λ bytes told.
    meaning-headers region.at region.capacity bytes c.in_ok-first.first c.in_ok-first.second
    (header_told region.at region.capacity 0 _ c.in_ok-first.first bytes c.in_ok-first.ensures.headers.0 told)
    (header_told region.at region.capacity 1 _ c.in_ok-first.second bytes c.in_ok-first.ensures.headers.1 told)
    ∙ judges _ _)

pub returns-in_err-found-clause-damaged : goal.returns-in_err-found-clause-damaged
returns-in_err-found-clause-damaged g c slot sequence length is =
    let from = err_from_is_err_and c.from_residual-in_err-found.result c.from_residual-in_err-found.ensures.1 in
    let fault : c.in_err-found.field-0.0 ≡ Damaged slot sequence length = cc (from.1, from.2, is) in
    let region = c.args.region in
    let judges = subst (λ (f : AttachFault). Judges region.capacity c.in_ok-first.first c.in_ok-first.second (Err f)) fault c.in_err-found.ensures in
    read_means region.at region.capacity (g.D.Disk.seen c.args.disk.now).reads (damaged slot sequence length) (λ bytes told.
    meaning-headers region.at region.capacity bytes c.in_ok-first.first c.in_ok-first.second
    (header_told region.at region.capacity 0 _ c.in_ok-first.first bytes c.in_ok-first.ensures.headers.0 told)
    (header_told region.at region.capacity 1 _ c.in_ok-first.second bytes c.in_ok-first.ensures.headers.1 told)
    ∙ judges _ _)

pub found-requires-clause-slot : goal.found-requires-clause-slot
found-requires-clause-slot g c =
    (judged_found c.args.region.capacity c.in_ok-first.first c.in_ok-first.second c.in_ok-found.found
    c.in_ok-first.ensures.slots.0 c.in_ok-first.ensures.slots.1 c.in_ok-found.ensures).0

pub found-requires-clause-fits : goal.found-requires-clause-fits
found-requires-clause-fits g c =
    (judged_found c.args.region.capacity c.in_ok-first.first c.in_ok-first.second c.in_ok-found.found
    c.in_ok-first.ensures.slots.0 c.in_ok-first.ensures.slots.1 c.in_ok-found.ensures).1

pub returns-clause-ok : goal.returns-clause-ok
returns-clause-ok g c =
    let region = c.args.region in
    let old = g.D.Disk.seen c.args.disk.now in
    let last = g.D.Disk.seen c.read_headers.new.disk in
    let kept : Kept = record {
      at = region.at;
      capacity = region.capacity;
      slot = c.in_ok-found.found.slot;
      sequence = c.in_ok-found.found.sequence;
      size = c.in_ok-found.found.size;
    } in
    subst (λ k. IsAttached region.at region.capacity last k) (sym (c.at.ensures ∙ c.found.ensures))
    (attached old last (g.met.D.Disk.lawful c.read_headers.new.disk) c.in_ok-first.ensures.synced kept (λ bytes told.
    judged_stands region.at region.capacity bytes c.in_ok-first.first c.in_ok-first.second
    (header_told region.at region.capacity 0 _ c.in_ok-first.first bytes c.in_ok-first.ensures.headers.0 told)
    (header_told region.at region.capacity 1 _ c.in_ok-first.second bytes c.in_ok-first.ensures.headers.1 told)
    c.in_ok-found.found c.in_ok-first.ensures.slots.0 c.in_ok-first.ensures.slots.1 c.in_ok-found.ensures
    (omega (arith, c.requires, length-read old (g.met.D.Disk.lawful c.args.disk.now) bytes told))))
