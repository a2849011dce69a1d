use Rattle.std.proofs.Common.{◌≡◌, IfOk, refl, sym, subst}
use Rattle.std.proofs.lemmas.Result.{err_from_is_err_and}
use Rattle.sz_record.specs.Spelling.{new_version, record_bytes}
use Rattle.sz_record.specs.Stored.{HasWidths, IsStorable}
use Rattle.sz_record.specs.declared.device.Device.{Device}
use Rattle.sz_state.specs.Layout.{space_of}
use Rattle.sz_state.specs.Ran.{RecordReplaced}
use Rattle.sz_state.specs.Step.{once_installed}
use Rattle.sz_state.proofs.Changing.{changed, installed-stored, stored_as, through}
use Rattle.sz_state.proofs.Replacing.{stands-not}
use Rattle.sz_state.proofs.change.install.Goals as goal

pub returns-in_err-device-clause-stands : goal.returns-in_err-device-clause-stands
returns-in_err-device-clause-stands g c stands in_area =
    let p = err_from_is_err_and c.from_residual.result c.from_residual.ensures.1 in
    rw (p.1)
    (stands-not (g.D.Disk.seen c.args.disk.now) c.args.held.device _ _ (g.met.D.Disk.lawful c.args.disk.now) stands)

pub replace-requires-clause-storable : goal.replace-requires-clause-storable
replace-requires-clause-storable g c =
    let held = c.requires.held in
    subst (λ (d : Device). IsStorable new_version d) (sym c.in_ok-device.ensures)
    (installed-stored (g.D.Disk.seen c.args.disk.now).size held.payload c.args.held.device c.args.staged
    c.args.onboarding.now c.args.when c.args.evidence held.layout held.stored c.requires.can).0

pub returns-clause-ok : goal.returns-clause-ok
returns-clause-ok g c =
    let old = g.D.Disk.seen c.args.disk.now in
    let new = g.D.Disk.seen c.replace.new.disk in
    let held = c.requires.held in
    let W : Device → Type 0 = λ d. HasWidths d in
    let e = c.in_ok-device.ensures in
    let after = once_installed c.args.held.device c.args.onboarding.now c.args.staged c.args.when c.args.evidence in
    let P : Device → Type 0 = λ d. RecordReplaced old new c.args.held.ready held.payload (record_bytes new_version d) c.replace.result in
    let Q : Device → Type 0 = λ d. IfOk c.replace.result (λ now. now.device ≡ d) in
    let facts = installed-stored old.size held.payload c.args.held.device c.args.staged c.args.onboarding.now c.args.when
    c.args.evidence held.layout held.stored c.requires.can in
    changed old new c.args.held after (record_bytes new_version after) (g.met.D.Disk.lawful c.args.disk.now)
    (g.met.D.Disk.lawful c.replace.new.disk) held (stored_as (space_of old.size) after facts.0 facts.1 (subst W e c.device_widths.ensures)) refl
    c.replace.result (subst P e (c.replace.ensures.replaced held.payload held.ready)) (subst Q e c.replace.ensures.device)

pub returns-clause-stands : goal.returns-clause-stands
returns-clause-stands g c stands in_area =
    let old = g.D.Disk.seen c.args.disk.now in
    let new = g.D.Disk.seen c.replace.new.disk in
    let held = c.requires.held in
    let W : Device → Type 0 = λ d. HasWidths d in
    let e = c.in_ok-device.ensures in
    let after = once_installed c.args.held.device c.args.onboarding.now c.args.staged c.args.when c.args.evidence in
    let P : Device → Type 0 = λ d. RecordReplaced old new c.args.held.ready held.payload (record_bytes new_version d) c.replace.result in
    let facts = installed-stored old.size held.payload c.args.held.device c.args.staged c.args.onboarding.now c.args.when
    c.args.evidence held.layout held.stored c.requires.can in
    through old new c.args.held after (record_bytes new_version after) (g.met.D.Disk.lawful c.args.disk.now)
    (g.met.D.Disk.lawful c.replace.new.disk) held (stored_as (space_of old.size) after facts.0 facts.1 (subst W e c.device_widths.ensures)) refl
    c.replace.result (subst P e (c.replace.ensures.replaced held.payload held.ready)) stands in_area
