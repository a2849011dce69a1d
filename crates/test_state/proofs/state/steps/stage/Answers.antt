use Rattle.std.proofs.Common.{sym, subst, ◌∙◌}
use Rattle.sz_disk.specs.Disk.{TornIn}
use Rattle.sz_disk.proofs.Moments.{still-torn}
use Rattle.sz_state.specs.Held.{IsHeld}
use Rattle.sz_state.specs.Layout.{area_place, space_of}
use Rattle.sz_state.proofs.Elsewhere.{held-elsewhere}
use Rattle.test_state.proofs.state.steps.stage.Goals as goal

pub returns-in_err-put-clause-held : goal.returns-in_err-put-clause-held
returns-in_err-put-clause-held g c =
    let room = c.staging-room.result in
    let led = c.put.ensures.led in
    let now = c.put.new.self.disk.now in
    let torn = subst (λ d. TornIn (area_place (g.D.Disk.seen d).size room.area) (space_of (g.D.Disk.seen d).size)
    (g.D.Disk.seen d) (g.D.Disk.seen now)) c.staging-room.ensures.now led.1.torn in
    let put : IsHeld (g.D.Disk.seen now) c.args.held.now =
    held-elsewhere (g.D.Disk.seen c.args.disk.now) (g.D.Disk.seen now) c.args.held.now room.area
    (g.met.D.Disk.lawful now) c.requires.held torn in
    let same = c.in_err-put.disk-1-own.given.1 (sym (led.0 ∙ c.staging-room.ensures.same_disk)) in
    subst (λ d. IsHeld (g.D.Disk.seen d) c.args.held.now) (sym same) put

pub returns-clause-held : goal.returns-clause-held
returns-clause-held g c =
    let room = c.staging-room.result in
    let led = c.put.ensures.led in
    let now = c.put.new.self.disk.now in
    let last = c.finish.new.self.0 in
    let torn = subst (λ d. TornIn (area_place (g.D.Disk.seen d).size room.area) (space_of (g.D.Disk.seen d).size)
    (g.D.Disk.seen d) (g.D.Disk.seen now)) c.staging-room.ensures.now led.1.torn in
    let put : IsHeld (g.D.Disk.seen now) c.args.held.now =
    held-elsewhere (g.D.Disk.seen c.args.disk.now) (g.D.Disk.seen now) c.args.held.now room.area
    (g.met.D.Disk.lawful now) c.requires.held torn in
    let finished : IsHeld (g.D.Disk.seen last) c.args.held.now =
    held-elsewhere (g.D.Disk.seen now) (g.D.Disk.seen last) c.args.held.now room.area
    (g.met.D.Disk.lawful last) put
    (still-torn (area_place (g.D.Disk.seen now).size room.area) (space_of (g.D.Disk.seen now).size)
    (g.D.Disk.seen now) (g.D.Disk.seen last) c.finish.ensures.still) in
    let same = c.disk-2-1.given.1 (sym (led.0 ∙ c.staging-room.ensures.same_disk)) in
    subst (λ d. IsHeld (g.D.Disk.seen d) c.args.held.now) (sym same) finished
