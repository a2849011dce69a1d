use Rattle.std.proofs.Common.{Err, ap, refl}
use Rattle.sz_disk.proofs.Moments.{still-still}
use Rattle.sz_state.proofs.Causes.{attach-cause, attach-stood, cause-after}
use Rattle.sz_state.proofs.Crash.{synced_on}
use Rattle.sz_state.proofs.Finding.{attach_found, attach_refused}
use Rattle.sz_state.proofs.Places.{attached_fits, region_fits}
use Rattle.sz_state.proofs.found.attach.Goals as goal

pub attach-requires : goal.attach-requires
attach-requires g c =
    region_fits _ _ c.requires c.of_disk-layout.ensures

pub read_record-requires : goal.read_record-requires
read_record-requires g c =
    attached_fits _ _ _ _ c.requires c.of_disk-layout.ensures c.attach.ensures.still.size c.in-Ok.ensures.ok

pub returns-in-Ok-clause-found : goal.returns-in-Ok-clause-found
returns-in-Ok-clause-found g c =
    attach_found (g.D.Disk.seen c.args.disk.now) (g.D.Disk.seen c.attach.new.disk) (g.D.Disk.seen c.read_record.new.disk) _ _ _
    (g.met.D.Disk.lawful c.read_record.new.disk)
    c.requires c.of_disk-layout.ensures c.in-Ok.ensures.ok (c.in-Ok.ensures.synced refl) c.read_record.ensures.quiet
    c.read_record.ensures.found

pub returns-in-Ok-clause-synced : goal.returns-in-Ok-clause-synced
returns-in-Ok-clause-synced g c stood =
    synced_on (g.D.Disk.seen c.args.disk.now) (g.D.Disk.seen c.attach.new.disk) (g.D.Disk.seen c.read_record.new.disk)
    (c.in-Ok.ensures.synced refl) c.read_record.ensures.quiet

pub returns-in-Ok-clause-still : goal.returns-in-Ok-clause-still
returns-in-Ok-clause-still g c =
    still-still (g.D.Disk.seen c.args.disk.now) (g.D.Disk.seen c.attach.new.disk) (g.D.Disk.seen c.read_record.new.disk)
    c.attach.ensures.still c.read_record.ensures.quiet.still

pub returns-in-Ok-clause-cause : goal.returns-in-Ok-clause-cause
returns-in-Ok-clause-cause g c =
    cause-after _ _ _ _ c.in-Ok.ensures.cause c.read_record.ensures.cause

pub returns-in-Err-clause-found : goal.returns-in-Err-clause-found
returns-in-Err-clause-found g c =
    rw c.from.ensures
    (attach_refused (g.D.Disk.seen c.args.disk.now) (g.D.Disk.seen c.attach.new.disk) c.of_disk-layout.result
    c.in-Err.fault c.of_disk-layout.ensures
    (λ e. c.in-Err.ensures.not_formatted (ap (λ f. Err f) e))
    (λ slot sequence size e. c.in-Err.ensures.damaged slot sequence size (ap (λ f. Err f) e)))

pub returns-in-Err-clause-synced : goal.returns-in-Err-clause-synced
returns-in-Err-clause-synced g c =
    rw c.from.ensures (λ stood. c.in-Err.ensures.synced (attach-stood c.in-Err.fault stood))

pub returns-in-Err-clause-cause : goal.returns-in-Err-clause-cause
returns-in-Err-clause-cause g c =
    rw c.from.ensures (attach-cause _ _ c.in-Err.fault c.in-Err.ensures.cause)
