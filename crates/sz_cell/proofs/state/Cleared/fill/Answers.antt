use Rattle.std.proofs.Common.{◌≡◌, ◌+◌, ◌≤◌, ◌-◌, length, ◌∙◌, ap, arith}
use Rattle.sz_cell.specs.Cell.{Kept, spare_place}
use Rattle.sz_cell.specs.Slot.{spelled, header_size}
use Rattle.sz_cell.proofs.Regions.{spare_inside}
use Rattle.sz_cell.proofs.Slots.{length-spelled}
use Rattle.sz_cell.proofs.States.{fill-any_moment, fill-ok}
use Rattle.sz_cell.proofs.Writes.{on_ok-refused}
use Rattle.sz_cell.proofs.state.Cleared.fill.Goals as goal

pub returns-in_err-write_behind-clause-ran : goal.returns-in_err-write_behind-clause-ran
returns-in_err-write_behind-clause-ran g c before cleared =
    let kept = c.args.self in
    let is : c.spare_place.result ≡ spare_place kept = c.spare_place.ensures.place ∙ ap spare_place c.self.view_is in
    let bytes = spelled (c.sequence-sequence.result + 1) c.args.payload.now in
    let fits : length bytes ≤ header_size - 1 + kept.capacity =
    omega (arith, c.requires.fits, length-spelled (c.sequence-sequence.result + 1) c.args.payload.now) in
    record {
      ok = on_ok-refused c.from_residual.result _ c.from_residual.ensures.0;
      any_moment = fill-any_moment _ _ (g.met.D.Disk.lawful c.args.disk.now) kept before (length bytes) fits cleared
          (rw is at c.write_behind.ensures.wrote.elsewhere);
    }

pub returns-clause-ran : goal.returns-clause-ran
returns-clause-ran g c before cleared =
    let kept = c.args.self in
    let is : c.spare_place.result ≡ spare_place kept = c.spare_place.ensures.place ∙ ap spare_place c.self.view_is in
    let next : c.sequence-sequence.result + 1 ≡ kept.sequence + 1 =
    ap (λ n. n + 1) (c.sequence-sequence.ensures ∙ ap (λ (k : Kept). k.sequence) c.self.view_is) in
    let wrote = rw (is, next) at c.in_ok-write_behind.ensures.wrote in
    let lawful = g.met.D.Disk.lawful c.args.disk.now in
    let fits : length (spelled (kept.sequence + 1) c.args.payload.now) ≤ header_size - 1 + kept.capacity =
    omega (arith, c.requires.fits, length-spelled (kept.sequence + 1) c.args.payload.now) in
    record {
      ok = fill-ok _ _ lawful kept before c.args.payload.now (g.met.D.Disk.lawful c.write_behind.new.disk)
          (omega (arith, next, c.self.invariant)) c.size_of-size.ensures.short c.requires.fits
          (omega (arith, c.requires.within, spare_inside kept)) cleared wrote.elsewhere wrote.ok;
      any_moment = fill-any_moment _ _ lawful kept before _ fits cleared wrote.elsewhere;
    }
