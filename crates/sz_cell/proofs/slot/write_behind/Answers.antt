use Rattle.std.proofs.Common.{◌≡◌, ◌+◌, ◌++◌, length, ◌∙◌, ap, arith}
use Rattle.std.proofs.lemmas.Result.{on_ok_weaker}
use Rattle.sz_disk.proofs.Moments.{torn-torn, still-torn}
use Rattle.sz_cell.specs.Slot.{spelled}
use Rattle.sz_cell.proofs.Writes.{writes-refused, torn-header, torn-spelled, wrote-spelled}
use Rattle.sz_cell.proofs.slot.write_behind.Goals as goal

pub returns-in_err-write_at-clause-wrote : goal.returns-in_err-write_at-clause-wrote
unfolding spelled
returns-in_err-write_at-clause-wrote g c =
    writes-refused _ _ _ _ c.from_residual.result c.from_residual.ensures.0
    (torn-header (c.args.place + 1) c.args.sequence (c.args.place + 1 + length c.spell-header.result) c.spell-header.result c.args.payload.now
    (ap (λ l. l ++ c.args.payload.now) c.spell-header.ensures) (omega arith) _ _ (g.D.Disk.seen c.write_at.new.self) c.write_at.ensures.wrote.torn)

pub returns-in_err-write_at-2-clause-wrote : goal.returns-in_err-write_at-2-clause-wrote
unfolding spelled
returns-in_err-write_at-2-clause-wrote g c =
    writes-refused _ _ _ _ c.from_residual-in_err-write_at-2.result c.from_residual-in_err-write_at-2.ensures.0
    (torn-spelled (c.args.place + 1) c.args.sequence (c.args.place + 16) c.spell-header.result c.args.payload.now
    (ap (λ l. l ++ c.args.payload.now) c.spell-header.ensures) (omega (arith, ap length c.spell-header.ensures)) _ _ _
    c.write_at.ensures.wrote.torn c.write_at-2.ensures.wrote.torn)

pub returns-clause-wrote : goal.returns-clause-wrote
unfolding spelled
returns-clause-wrote g c =
    let first = g.D.Disk.seen c.args.disk.now in
    let middle = g.D.Disk.seen c.write_at.new.self in
    let last = g.D.Disk.seen c.write_at-2.new.self in
    let is = ap (λ l. l ++ c.args.payload.now) c.spell-header.ensures in
    let there : c.args.place + 16 ≡ (c.args.place + 1) + length c.spell-header.result = omega (arith, ap length c.spell-header.ensures) in
    let reads = wrote-spelled (c.args.place + 1) c.args.sequence (c.args.place + 16) c.spell-header.result c.args.payload.now is there
    first middle last (g.met.D.Disk.lawful c.args.disk.now) (omega (arith, c.requires.fits))
    c.in_ok-write_at.ensures.written c.in_ok-write_at-2.ensures.written in
    record {
      ok = on_ok_weaker c.sync.result (λ synced. record { reads = synced.quiet.reads ∙ reads; settled = synced.settled }) c.sync.ensures.ok;
      elsewhere = torn-torn _ _ first last (g.D.Disk.seen c.sync.new.self)
          (torn-spelled (c.args.place + 1) c.args.sequence (c.args.place + 16) c.spell-header.result c.args.payload.now is there
          first middle last c.write_at.ensures.wrote.torn c.write_at-2.ensures.wrote.torn)
          (still-torn _ _ last _ c.sync.ensures.still);
    }
