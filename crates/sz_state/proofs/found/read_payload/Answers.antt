use Rattle.std.proofs.Common.{◌≡◌, ◌++◌, length, take, drop, arith, sym, subst}
use Rattle.std.proofs.lemmas.List.{take_at}
use Rattle.sz_cell.specs.Cell.{IsReady}
use Rattle.sz_state.proofs.Crash.{ready_read}
use Rattle.sz_state.proofs.found.read_payload.Goals as goal

pub returns-in-Ok-read-clause-read : goal.returns-in-Ok-read-clause-read
returns-in-Ok-read-clause-read g c payload ready =
    let old = g.D.Disk.seen c.args.disk.now in
    let new = g.D.Disk.seen c.read.new.disk in
    let into = c.read.new.into in
    let size : length into ≡ c.in-Ok.payload.len = omega arith in
    let whole : take c.in-Ok.payload.len (into ++ drop (length into) c.in-Ok.payload.items) ≡ into =
    take_at into (drop (length into) c.in-Ok.payload.items) c.in-Ok.payload.len size in
    let now = c.in-Ok-read.ensures.ready payload ready in
    subst (λ l. IsReady new c.args.ready.now l) (sym whole)
    (ready_read new old.reads c.args.ready.now payload into (g.met.D.Disk.lawful c.read.new.disk)
    c.read.ensures.quiet.reads (c.in-Ok-read.ensures.payload payload ready) now
    (omega (arith, size, c.in-Ok.ensures.len, c.length.ensures)))
