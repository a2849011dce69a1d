use Rattle.std.specs.Prelude.{bytes_eq}
use Rattle.std.proofs.Common.{ℕ, List, ap, sym, subst, ◌∙◌, ◌≡◌, true, false}
use Rattle.sz_der.specs.Spots.{Spot, spot_of}
use Rattle.sz_x509.specs.CertFault.{identifier_at, stands_among}
use Rattle.sz_x509.specs.CertPlaces.{LeadHere}
use Rattle.sz_x509.proofs.Walking.{arrived, goes_on, longer, not_longer, passed_over, stands_next}
use Rattle.sz_x509.proofs.extensions.stands_before.Goals as goal

pub returns-in-Ok : goal.returns-in-Ok
returns-in-Ok c = λ earlier lead.
    let reader = spot_of c.loop-reader.reader in
    let at = c.loop-reader.invariant earlier lead in
    let on = goes_on reader at.0 (spot_of c.args.here.now) at.1 (longer c.args.here.now c.loop-reader.reader c.loop-reader-test.true) in
    let same : bytes_eq (identifier_at reader) c.args.identifier.now ≡ true =
    ap (λ (x : List ℕ). bytes_eq x c.args.identifier.now) (sym c.in-Ok.ensures.identifier) ∙ sym c.if-eq.ensures in
    sym (at.2 ∙ ap (λ (x : List Spot). stands_among x c.args.identifier.now) on.todo_is ∙ stands_next reader on.rest c.args.identifier.now same)

pub loop-reader-preserved : goal.loop-reader-preserved
loop-reader-preserved c = λ earlier lead.
    let reader = spot_of c.loop-reader.reader in
    let here = spot_of c.args.here.now in
    let at = c.loop-reader.invariant earlier lead in
    let on = goes_on reader at.0 here at.1 (longer c.args.here.now c.loop-reader.reader c.loop-reader-test.true) in
    let other : bytes_eq (identifier_at reader) c.args.identifier.now ≡ false =
    ap (λ (x : List ℕ). bytes_eq x c.args.identifier.now) (sym c.in-Ok.ensures.identifier) ∙ sym c.if-eq.ensures in (
      on.rest,
      subst (λ (s : Spot). LeadHere s on.rest here) (sym c.in-Ok.ensures.next) on.lead,
      at.2 ∙ ap (λ (x : List Spot). stands_among x c.args.identifier.now) on.todo_is ∙ passed_over reader on.rest c.args.identifier.now other,
    )

pub returns-in-Err : goal.returns-in-Err
returns-in-Err c = λ earlier lead.
    let at = c.loop-reader.invariant earlier lead in
    let on = goes_on (spot_of c.loop-reader.reader) at.0 (spot_of c.args.here.now) at.1
    (longer c.args.here.now c.loop-reader.reader c.loop-reader-test.true) in
    absurd (c.in-Err.ensures.err on.begins)

pub returns : goal.returns
returns c = λ earlier lead.
    let at = c.loop-reader.invariant earlier lead in
    sym (at.2 ∙ arrived (spot_of c.loop-reader.reader) at.0 (spot_of c.args.here.now) c.args.identifier.now at.1
    (not_longer c.loop-reader.reader c.args.here.now c.loop-reader-test.false))
