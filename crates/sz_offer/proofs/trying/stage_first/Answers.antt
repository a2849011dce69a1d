use Rattle.std.proofs.Common.{sym, ◌∙◌}
use Rattle.sz_offer.proofs.Sparing.{spared, spared_still}
use Rattle.sz_offer.proofs.trying.stage_first.Goals as goal

pub returns-in-Ok-finish-clause-spare : goal.returns-in-Ok-finish-clause-spare
returns-in-Ok-finish-clause-spare g c =
    let room = c.staging-room in
    let led = c.fetch_first.ensures.led.0 in
    spared_still g.D.Disk.seen g.met.D.Disk.lawful c.args.disk.now room.result.disk.now c.fetch_first.new.room.disk.now
    c.finish.new.self.0 _ c.args.held.now room.result.area c.fetch_first.new.room.area c.requires.found
    room.ensures.now room.ensures.area led.1 c.finish.ensures.still
    (c.disk-1.given.1 (sym (led.0 ∙ room.ensures.same_disk)))

pub returns-in-Err-clause-spare : goal.returns-in-Err-clause-spare
returns-in-Err-clause-spare g c =
    let room = c.staging-room in
    let led = c.fetch_first.ensures.led.0 in
    spared_still g.D.Disk.seen g.met.D.Disk.lawful c.args.disk.now room.result.disk.now c.fetch_first.new.room.disk.now
    c.finish.new.self.0 _ c.args.held.now room.result.area c.fetch_first.new.room.area c.requires.found
    room.ensures.now room.ensures.area led.1 c.finish.ensures.still
    (c.disk-1.given.1 (sym (led.0 ∙ room.ensures.same_disk)))

pub returns-in-Err-Refused-clause-spare : goal.returns-in-Err-Refused-clause-spare
returns-in-Err-Refused-clause-spare g c =
    let room = c.staging-room in
    let led = c.fetch_first.ensures.led.0 in
    spared g.D.Disk.seen g.met.D.Disk.lawful c.args.disk.now room.result.disk.now c.fetch_first.new.room.disk.now _
    c.args.held.now room.result.area c.fetch_first.new.room.area c.requires.found room.ensures.now room.ensures.area led.1
    (c.in-Err-Refused.disk-in-Err-fetch_first-1-own.given.1 (sym (led.0 ∙ room.ensures.same_disk)))

pub returns-in-Err-DiskFault-clause-spare : goal.returns-in-Err-DiskFault-clause-spare
returns-in-Err-DiskFault-clause-spare g c =
    let room = c.staging-room in
    let led = c.fetch_first.ensures.led.0 in
    spared g.D.Disk.seen g.met.D.Disk.lawful c.args.disk.now room.result.disk.now c.fetch_first.new.room.disk.now _
    c.args.held.now room.result.area c.fetch_first.new.room.area c.requires.found room.ensures.now room.ensures.area led.1
    (c.in-Err-DiskFault.disk-in-Err-fetch_first-1-own.given.1 (sym (led.0 ∙ room.ensures.same_disk)))

pub returns-in-Err-OutOfMemory-clause-spare : goal.returns-in-Err-OutOfMemory-clause-spare
returns-in-Err-OutOfMemory-clause-spare g c =
    let room = c.staging-room in
    let led = c.fetch_first.ensures.led.0 in
    spared g.D.Disk.seen g.met.D.Disk.lawful c.args.disk.now room.result.disk.now c.fetch_first.new.room.disk.now _
    c.args.held.now room.result.area c.fetch_first.new.room.area c.requires.found room.ensures.now room.ensures.area led.1
    (c.in-Err-OutOfMemory.disk-in-Err-fetch_first-1-own.given.1 (sym (led.0 ∙ room.ensures.same_disk)))
