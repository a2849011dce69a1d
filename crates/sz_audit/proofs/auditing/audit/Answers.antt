use Rattle.sz_disk.proofs.Moments.{still-torn}
use Rattle.sz_state.specs.Layout.{area_place, space_of}
use Rattle.sz_state.proofs.Elsewhere.{held-elsewhere}
use Rattle.sz_audit.proofs.auditing.audit.Goals as goal

pub returns-clause-found : goal.returns-clause-found
returns-clause-found g c =
    let before = g.D.Disk.seen c.attach.new.disk in
    let now = g.D.Disk.seen c.image_found.new.disk in
    let place = area_place before.size 0 in
    let torn = still-torn place (space_of before.size) before now c.in_ok-image.ensures.quiet.still in (
      c.in_ok-held.held,
      held-elsewhere before now c.in_ok-held.held 0 (g.met.D.Disk.lawful c.image_found.new.disk)
          c.in_ok-held.ensures.found torn,
      record { image = c.in_ok-image.ensures.found; configuration = c.in_ok-configuration.ensures.found },
    )
