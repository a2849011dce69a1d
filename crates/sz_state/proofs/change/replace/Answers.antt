use Rattle.std.proofs.Common.{◌≡◌, ◌≤◌, List, ℕ, length, Err, Ok, ap, arith, subst, ◌∙◌}
use Rattle.std.proofs.lemmas.Result.{err_from_is_err_and}
use Rattle.sz_record.specs.Spelling.{new_version, record_bytes}
use Rattle.sz_state.specs.Ran.{RecordReplaced}
use Rattle.sz_state.proofs.Replacing.{clear-answered, replaced-err, replaced-not, replaced-ok}
use Rattle.sz_state.proofs.change.replace.Goals as goal

pub returns-in_err-payload-clause-replaced : goal.returns-in_err-payload-clause-replaced
returns-in_err-payload-clause-replaced g c before ready =
    let p = err_from_is_err_and c.from_residual.result c.from_residual.ensures.1 in
    rw (p.1)
    (replaced-not (g.D.Disk.seen c.args.disk.now) c.args.ready before (record_bytes new_version c.args.device) _
    (g.met.D.Disk.lawful c.args.disk.now) ready)

pub returns-in-Ok-clause-replaced : goal.returns-in-Ok-clause-replaced
returns-in-Ok-clause-replaced g c before ready =
    let old = g.D.Disk.seen c.args.disk.now in
    let new = g.D.Disk.seen c.replace.new.disk in
    let payload = c.as_slice.result.now in
    let e : payload ≡ record_bytes new_version c.args.device = c.as_slice.ensures ∙ c.in_ok-payload.ensures in
    let fits : length payload ≤ c.args.ready.capacity = omega (arith, ap (λ (l : List ℕ). length l) e, c.requires.fits) in
    let P : List ℕ → Type 0 = λ l. RecordReplaced old new c.args.ready before l
    (Ok (record { device = c.args.device; ready = c.in-Ok.ready })) in
    subst P e
    (replaced-ok old new c.args.ready before payload _ fits c.replace.ensures.wrote.elsewhere c.in-Ok.ready c.args.device
    c.in-Ok.ensures.same (c.in-Ok.ensures.replaced before ready))

pub returns-in-Err-clause-replaced : goal.returns-in-Err-clause-replaced
returns-in-Err-clause-replaced g c before ready =
    let old = g.D.Disk.seen c.args.disk.now in
    let new = g.D.Disk.seen c.replace.new.disk in
    let payload = c.as_slice.result.now in
    let e : payload ≡ record_bytes new_version c.args.device = c.as_slice.ensures ∙ c.in_ok-payload.ensures in
    let fits : length payload ≤ c.args.ready.capacity = omega (arith, ap (λ (l : List ℕ). length l) e, c.requires.fits) in
    let P : List ℕ → Type 0 = λ l. RecordReplaced old new c.args.ready before l (Err c.from.result) in
    subst P e
    (replaced-err old new c.args.ready before payload _ fits c.replace.ensures.wrote.elsewhere c.in-Err.fault c.from.result
    (c.in-Err.ensures.replaced before ready))

pub returns-in-Err-clause-answer : goal.returns-in-Err-clause-answer
returns-in-Err-clause-answer g c =
    rw c.from.ensures (clear-answered c.args.ready.sequence c.in-Err.fault (λ number. (
      λ is. (c.in-Err.ensures.exhausted number).0 (ap (λ f. Err f) is),
      λ is. cc ((c.in-Err.ensures.exhausted number).1 is),
    )))
