use Rattle.std.specs.Prelude.{FitsSigned}
use Rattle.std.specs.Int.{w64}
use Rattle.std.proofs.Common.{rules, ◌≡◌, true, Some, refl, sym, ap, ◌∙◌}
use Rattle.std.proofs.lemmas.Bool.{false_from_ne_true}
use Rattle.std.proofs.lemmas.Int.{to_z-of_z}
use Rattle.sz_calendar.specs.CivilTime.{unix_seconds}
use Rattle.sz_der.specs.Spots.{content_at, spot_of, tag_at}
use Rattle.sz_der.proofs.Steps.{exit}
use Rattle.sz_x509.specs.CertFault.{Fault, time_fault}
use Rattle.sz_x509.specs.CertPlaces.{seconds_at}
use Rattle.sz_x509.specs.Contents.{is_time, time_in}
use Rattle.sz_x509.proofs.Times.{NamesTime_from_test, time_test, time_value}
use Rattle.sz_x509.proofs.parts.take_time.Goals as goal

pub returns-in_err-item-clause-fault : goal.returns-in_err-item-clause-fault
unfolding time_fault
returns-in_err-item-clause-fault c =
    exit _ _ c.in_err-item.field-0.0 c.from_residual.ensures.1 (rw c.in_err-item.ensures.fault refl)

pub returns-in-Ok-clause-ok : goal.returns-in-Ok-clause-ok
unfolding time_fault
returns-in-Ok-clause-ok c =
    let spot = spot_of c.args.reader.now in
    let item = c.in_ok-item.item in
    let is = c.in_ok-item.ensures.item in
    let test : is_time (tag_at spot) (content_at spot) ≡ true =
    rw (← is.tag, ← is.content) (time_test item.tag item.content.now c.in-Ok.ensures.found.0 c.in-Ok.ensures.found.1) in
    rw (c.in_ok-item.ensures.ok, test) refl

pub returns-in-Ok-clause-seconds : goal.returns-in-Ok-clause-seconds
unfolding seconds_at
returns-in-Ok-clause-seconds c =
    let spot = spot_of c.args.reader.now in
    let item = c.in_ok-item.item in
    let is = c.in_ok-item.ensures.item in
    let found = c.in-Ok.ensures.found in
    let fits : FitsSigned w64 c.in-Ok.seconds = search rules in
    rw (← is.tag, ← is.content) (to_z-of_z w64 c.in-Ok.seconds fits
    ∙ sym found.2.at ∙ ap unix_seconds (sym (time_value item.tag item.content.now found.0 found.1)))

pub returns-in-Err-clause-fault : goal.returns-in-Err-clause-fault
unfolding time_fault
returns-in-Err-clause-fault c =
    let spot = spot_of c.args.reader.now in
    let item = c.in_ok-item.item in
    let is = c.in_ok-item.ensures.item in
    let test = false_from_ne_true (is_time (tag_at spot) (content_at spot)) (λ e.
    let told : is_time item.tag item.content.now ≡ true = rw (is.tag, is.content) e in
    absurd (cc (c.in-Err.ensures.only (time_in item.tag item.content.now) (NamesTime_from_test item.tag item.content.now told)))) in
    rw (c.in_ok-item.ensures.ok, test) (ap (λ (x : Fault). Some x) (sym (c.part_fault.ensures spot is)))
