use Rattle.std.proofs.Common.{Err, ap, ◌∙◌}
use Rattle.std.proofs.lemmas.Result.{err_from_is_err_and}
use Rattle.sz_state.proofs.Causes.{format-cause}
use Rattle.sz_state.proofs.Making.{early-any_moment, early_made, fits-early, fits-refused, fits_placed, made-any_moment, made_at, not_early, not_made}
use Rattle.sz_state.proofs.Places.{region_fits}
use Rattle.sz_state.proofs.initial.init.Goals as goal

pub format-requires-clause-within : goal.format-requires-clause-within
format-requires-clause-within g c =
    region_fits _ _ c.requires.layout c.of_disk-layout.ensures

pub returns-in-Ok-clause-made : goal.returns-in-Ok-clause-made
returns-in-Ok-clause-made g c =
    made_at (g.D.Disk.seen c.args.disk.now) (g.D.Disk.seen c.format.new.disk) c.args.identity.now c.as_slice.result.now _
    (g.met.D.Disk.lawful c.format.new.disk)
    c.format.ensures.wrote.elsewhere.size c.requires.layout c.of_disk-layout.ensures c.requires.whole
    c.in_ok-payload.ensures.wide (c.as_slice.ensures ∙ c.in_ok-payload.ensures.first)
    c.in-Ok.ensures.ok

pub returns-in-Ok-clause-any_moment : goal.returns-in-Ok-clause-any_moment
returns-in-Ok-clause-any_moment g c =
    made-any_moment (g.D.Disk.seen c.args.disk.now) (g.D.Disk.seen c.format.new.disk) c.args.identity.now c.as_slice.result.now _
    (g.met.D.Disk.lawful c.format.new.disk)
    c.format.ensures.wrote.elsewhere.size c.requires.layout c.of_disk-layout.ensures c.requires.whole
    c.in_ok-payload.ensures.wide (c.as_slice.ensures ∙ c.in_ok-payload.ensures.first)
    c.format.ensures.any_moment

pub returns-clause-made : goal.returns-clause-made
returns-clause-made g c =
    rw c.from.ensures
    (not_made (g.D.Disk.seen c.args.disk.now) (g.D.Disk.seen c.format.new.disk) c.args.identity.now _ c.in-Err.fault
    c.of_disk-layout.ensures (λ slot e. c.in-Err.ensures.in_use slot (ap (λ f. Err f) e)))

pub returns-clause-any_moment : goal.returns-clause-any_moment
returns-clause-any_moment g c =
    made-any_moment (g.D.Disk.seen c.args.disk.now) (g.D.Disk.seen c.format.new.disk) c.args.identity.now
    c.as_slice.result.now _ (g.met.D.Disk.lawful c.format.new.disk) c.format.ensures.wrote.elsewhere.size
    c.requires.layout c.of_disk-layout.ensures c.requires.whole
    c.in_ok-payload.ensures.wide (c.as_slice.ensures ∙ c.in_ok-payload.ensures.first) c.format.ensures.any_moment

pub returns-clause-untouched : goal.returns-clause-untouched
returns-clause-untouched g c =
    rw c.from.ensures (λ early. absurd (not_early c.in-Err.fault early))

pub returns-clause-cause : goal.returns-clause-cause
returns-clause-cause g c =
    rw c.from.ensures (format-cause _ _ c.in-Err.fault c.in-Err.ensures.cause)

pub returns-in_err-payload-clause-made : goal.returns-in_err-payload-clause-made
returns-in_err-payload-clause-made g c =
    let p = err_from_is_err_and c.from_residual.result c.from_residual.ensures.1 in
    rw (p.1, p.2)
    (early_made (g.D.Disk.seen c.args.disk.now) c.args.identity.now _ _ c.of_disk-layout.ensures c.in_err-payload.ensures.refused)

pub returns-in_err-payload-clause-any_moment : goal.returns-in_err-payload-clause-any_moment
returns-in_err-payload-clause-any_moment g c =
    early-any_moment (g.D.Disk.seen c.args.disk.now) c.args.identity.now (g.met.D.Disk.lawful c.args.disk.now)

pub returns-in-Ok-clause-fits : goal.returns-in-Ok-clause-fits
returns-in-Ok-clause-fits g c =
    fits_placed (g.D.Disk.seen c.args.disk.now).size c.of_disk-layout.result c.args.identity.now c.in_ok-payload.payload
    c.of_disk-layout.ensures c.in_ok-payload.ensures.first c.in_ok-payload.ensures.fits

pub returns-clause-fits : goal.returns-clause-fits
returns-clause-fits g c =
    rw c.from.ensures
    (fits-refused (g.D.Disk.seen c.args.disk.now) c.args.identity.now c.in-Err.fault
    (fits_placed (g.D.Disk.seen c.args.disk.now).size c.of_disk-layout.result c.args.identity.now c.in_ok-payload.payload
    c.of_disk-layout.ensures c.in_ok-payload.ensures.first c.in_ok-payload.ensures.fits))

pub returns-in_err-payload-clause-fits : goal.returns-in_err-payload-clause-fits
returns-in_err-payload-clause-fits g c =
    let p = err_from_is_err_and c.from_residual.result c.from_residual.ensures.1 in
    rw (p.1, p.2)
    (fits-early (g.D.Disk.seen c.args.disk.now) c.args.identity.now _ _ c.in_err-payload.ensures.refused)
