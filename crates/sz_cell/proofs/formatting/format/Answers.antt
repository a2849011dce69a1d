use Rattle.std.proofs.Common.{◌≡◌, ◌∷◌, refl, ◌∙◌, arith, inl, inr}
use Rattle.sz_disk.proofs.Moments.{torn-torn, still-torn}
use Rattle.sz_cell.specs.Slot.{place, open_gate, spelled}
use Rattle.sz_cell.proofs.Fresh.{behind-any_moment, gate-any_moment, first-ready}
use Rattle.sz_cell.proofs.Regions.{place_inside, place_zero}
use Rattle.sz_cell.proofs.Slots.{length-spelled}
use Rattle.sz_cell.proofs.Writes.{writes-refused, torn-gate, torn-behind, wrote-gate, quiet-wrote}
use Rattle.sz_cell.proofs.formatting.format.Goals as goal

pub first-requires-clause-word : goal.first-requires-clause-word
first-requires-clause-word g c = omega (arith, c.requires.within, (g.met.D.Disk.lawful c.args.disk.now).word)

pub write_behind-requires-clause-fits : goal.write_behind-requires-clause-fits
write_behind-requires-clause-fits g c =
    let inside = place_inside c.args.region.at c.args.region.capacity 0 (omega arith) in
    omega (arith, c.place-place.ensures, inside.1, c.requires.within, c.requires.fits, c.find_closed.ensures.still.size)

pub write_gate-requires : goal.write_gate-requires
write_gate-requires g c =
    let inside = place_inside c.args.region.at c.args.region.capacity 0 (omega arith) in
    omega (arith, c.place-place.ensures, inside.1, c.requires.within, c.find_closed.ensures.still.size, c.write_behind.ensures.wrote.elsewhere.size)

pub returns-in_err-write_behind-clause-any_moment : goal.returns-in_err-write_behind-clause-any_moment
returns-in_err-write_behind-clause-any_moment g c =
    let region = c.args.region in
    let is : c.place-place.result ≡ place region.at region.capacity 0 = c.place-place.ensures in
    behind-any_moment region.at region.capacity c.args.payload.now c.requires.fits (g.D.Disk.seen c.args.disk.now)
    (g.D.Disk.seen c.find_closed.new.disk) (g.D.Disk.seen c.write_behind.new.disk)
    (g.met.D.Disk.lawful c.args.disk.now) (g.met.D.Disk.lawful c.find_closed.new.disk)
    (c.in_ok-find_closed.ensures.synced refl) c.in_ok-find_closed.ensures.closed (rw is at c.write_behind.ensures.wrote.elsewhere)

pub returns-in_err-write_behind-clause-wrote : goal.returns-in_err-write_behind-clause-wrote
returns-in_err-write_behind-clause-wrote g c =
    let is : c.place-place.result ≡ c.args.region.at = c.place-place.ensures ∙ place_zero c.args.region.at c.args.region.capacity in
    let middle = g.D.Disk.seen c.find_closed.new.disk in
    writes-refused _ _ _ _ c.from_residual-in_err-write_behind.result c.from_residual-in_err-write_behind.ensures.0
    (torn-torn _ _ _ middle _ (still-torn _ _ _ middle c.find_closed.ensures.still)
    (torn-behind _ open_gate _ middle _ (rw is at c.write_behind.ensures.wrote.elsewhere)))

pub returns-in_err-write_gate-clause-any_moment : goal.returns-in_err-write_gate-clause-any_moment
returns-in_err-write_gate-clause-any_moment g c =
    let region = c.args.region in
    let is : c.place-place.result ≡ place region.at region.capacity 0 = c.place-place.ensures in
    let inside = place_inside region.at region.capacity 0 (omega arith) in
    gate-any_moment region.at region.capacity c.args.payload.now c.requires.fits (g.D.Disk.seen c.args.disk.now)
    (g.D.Disk.seen c.find_closed.new.disk) (g.D.Disk.seen c.write_behind.new.disk)
    (g.met.D.Disk.lawful c.args.disk.now) (g.met.D.Disk.lawful c.find_closed.new.disk)
    (c.in_ok-find_closed.ensures.synced refl) c.in_ok-find_closed.ensures.closed (rw is at c.write_behind.ensures.wrote.elsewhere)
    (g.D.Disk.seen c.write_gate.new.disk) (g.met.D.Disk.lawful c.write_behind.new.disk) c.size_of-size.ensures.short
    (omega (arith, inside.1, c.requires.within)) (rw is at c.in_ok-write_behind.ensures.wrote.ok) (rw is at c.write_gate.ensures.wrote.elsewhere)

pub returns-in_err-write_gate-clause-wrote : goal.returns-in_err-write_gate-clause-wrote
returns-in_err-write_gate-clause-wrote g c =
    let is : c.place-place.result ≡ c.args.region.at = c.place-place.ensures ∙ place_zero c.args.region.at c.args.region.capacity in
    let middle = g.D.Disk.seen c.find_closed.new.disk in
    let behind = g.D.Disk.seen c.write_behind.new.disk in
    let bytes = spelled 1 c.args.payload.now in
    writes-refused _ _ _ _ c.from_residual-in_err-write_gate.result c.from_residual-in_err-write_gate.ensures.0
    (torn-torn _ _ _ behind _
    (torn-torn _ _ _ middle _ (still-torn _ _ _ middle c.find_closed.ensures.still)
    (torn-behind _ open_gate bytes middle behind (rw is at c.write_behind.ensures.wrote.elsewhere)))
    (torn-gate _ open_gate bytes behind _ (rw is at c.write_gate.ensures.wrote.elsewhere)))

pub returns-clause-any_moment : goal.returns-clause-any_moment
returns-clause-any_moment g c =
    let region = c.args.region in
    let is : c.place-place.result ≡ place region.at region.capacity 0 = c.place-place.ensures in
    let inside = place_inside region.at region.capacity 0 (omega arith) in
    gate-any_moment region.at region.capacity c.args.payload.now c.requires.fits (g.D.Disk.seen c.args.disk.now)
    (g.D.Disk.seen c.find_closed.new.disk) (g.D.Disk.seen c.write_behind.new.disk)
    (g.met.D.Disk.lawful c.args.disk.now) (g.met.D.Disk.lawful c.find_closed.new.disk)
    (c.in_ok-find_closed.ensures.synced refl) c.in_ok-find_closed.ensures.closed (rw is at c.write_behind.ensures.wrote.elsewhere)
    (g.D.Disk.seen c.write_gate.new.disk) (g.met.D.Disk.lawful c.write_behind.new.disk) c.size_of-size.ensures.short
    (omega (arith, inside.1, c.requires.within)) (rw is at c.in_ok-write_behind.ensures.wrote.ok) (rw is at c.write_gate.ensures.wrote.elsewhere)

pub returns-clause-ok : goal.returns-clause-ok
returns-clause-ok g c =
    let region = c.args.region in
    let is : c.place-place.result ≡ place region.at region.capacity 0 = c.place-place.ensures in
    let inside = place_inside region.at region.capacity 0 (omega arith) in
    record {
      free = c.in_ok-find_closed.ensures.closed;
      ready = first-ready region.at region.capacity c.args.payload.now c.requires.fits (g.D.Disk.seen c.args.disk.now)
          (g.D.Disk.seen c.find_closed.new.disk) (g.D.Disk.seen c.write_behind.new.disk)
          (g.met.D.Disk.lawful c.args.disk.now) (g.met.D.Disk.lawful c.find_closed.new.disk)
          (c.in_ok-find_closed.ensures.synced refl) c.in_ok-find_closed.ensures.closed (rw is at c.write_behind.ensures.wrote.elsewhere)
          (g.D.Disk.seen c.write_gate.new.disk) (g.met.D.Disk.lawful c.write_behind.new.disk) c.size_of-size.ensures.short
          (omega (arith, inside.1, c.requires.within)) (rw is at c.in_ok-write_behind.ensures.wrote.ok)
          (rw is at c.write_gate.ensures.wrote.elsewhere) (rw is at c.in_ok-write_gate.ensures.wrote.ok);
      settled = c.in_ok-write_gate.ensures.wrote.ok.settled;
    }

pub returns-clause-wrote : goal.returns-clause-wrote
returns-clause-wrote g c =
    let region = c.args.region in
    let is : c.place-place.result ≡ region.at = c.place-place.ensures ∙ place_zero region.at region.capacity in
    let old = g.D.Disk.seen c.args.disk.now in
    let middle = g.D.Disk.seen c.find_closed.new.disk in
    let behind = g.D.Disk.seen c.write_behind.new.disk in
    let last = g.D.Disk.seen c.write_gate.new.disk in
    let bytes = spelled 1 c.args.payload.now in
    let back = rw is at c.in_ok-write_behind.ensures.wrote in
    let gate = rw is at c.in_ok-write_gate.ensures.wrote in
    record {
      ok = quiet-wrote region.at (open_gate ∷ bytes) old middle last (c.in_ok-find_closed.ensures.synced refl).quiet
          (wrote-gate region.at open_gate bytes middle behind last (g.met.D.Disk.lawful c.find_closed.new.disk)
          (omega (arith, c.requires.within, c.requires.fits, c.find_closed.ensures.still.size, length-spelled 1 c.args.payload.now))
          back.ok gate.ok);
      elsewhere =
          torn-torn _ _ old behind last
          (torn-torn _ _ old middle behind (still-torn _ _ old middle c.find_closed.ensures.still)
          (torn-behind _ open_gate bytes middle behind back.elsewhere))
          (torn-gate _ open_gate bytes behind last gate.elsewhere);
    }

pub returns-in_err-find_closed-clause-free : goal.returns-in_err-find_closed-clause-free
returns-in_err-find_closed-clause-free g c = inl c.find_closed.ensures.still

pub returns-in_err-write_behind-clause-free : goal.returns-in_err-write_behind-clause-free
returns-in_err-write_behind-clause-free g c = inr c.in_ok-find_closed.ensures.closed

pub returns-in_err-write_gate-clause-free : goal.returns-in_err-write_gate-clause-free
returns-in_err-write_gate-clause-free g c = inr c.in_ok-find_closed.ensures.closed

pub returns-clause-free : goal.returns-clause-free
returns-clause-free g c = inr c.in_ok-find_closed.ensures.closed
