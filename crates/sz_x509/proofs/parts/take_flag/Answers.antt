use Rattle.std.proofs.Common.{◌≡◌, true, Some, refl, sym, ap, ◌∙◌}
use Rattle.sz_der.specs.Spots.{is_next, spot_of}
use Rattle.sz_der.specs.Tags.{boolean_tag}
use Rattle.sz_der.proofs.Optional.{after_next, after_other, next_tag}
use Rattle.sz_der.proofs.Steps.{exit, fails, passes}
use Rattle.sz_x509.specs.CertFault.{Fault, flag_fault}
use Rattle.sz_x509.specs.Contents.{is_boolean, is_true_content}
use Rattle.sz_x509.proofs.Chains.{flag_at-next, flag_at-other}
use Rattle.sz_x509.proofs.Values.{boolean_test, boolean_value, IsBoolean_from_test}
use Rattle.sz_x509.proofs.parts.take_flag.Goals as goal

pub returns-then-not-is_next-clause-ok : goal.returns-then-not-is_next-clause-ok
unfolding flag_fault
returns-then-not-is_next-clause-ok c = rw (sym c.is_next.ensures ∙ c.if-not-is_next.true) refl

pub returns-then-not-is_next-clause-flag : goal.returns-then-not-is_next-clause-flag
returns-then-not-is_next-clause-flag c = sym (flag_at-other (spot_of c.args.reader.now) (sym c.is_next.ensures ∙ c.if-not-is_next.true))

pub returns-then-not-is_next-clause-next : goal.returns-then-not-is_next-clause-next
returns-then-not-is_next-clause-next c = sym (after_other boolean_tag (spot_of c.args.reader.now) (sym c.is_next.ensures ∙ c.if-not-is_next.true))

pub returns-in_err-item-clause-fault : goal.returns-in_err-item-clause-fault
unfolding flag_fault
returns-in_err-item-clause-fault c =
    exit _ _ c.in_err-item.field-0.0 c.from_residual.ensures.1
    (rw (sym c.is_next.ensures ∙ c.if-not-is_next.false, c.in_err-item.ensures.fault) refl)

pub returns-in-Ok-clause-ok : goal.returns-in-Ok-clause-ok
unfolding flag_fault
returns-in-Ok-clause-ok c =
    let spot = spot_of c.args.reader.now in
    let item = c.in_ok-item.item in
    let test = passes is_boolean spot item c.in_ok-item.ensures.item (boolean_test c.in-Ok.flag item.content.now c.in-Ok.ensures.found.1) in
    rw (sym c.is_next.ensures ∙ c.if-not-is_next.false, c.in_ok-item.ensures.ok, test) refl

pub returns-in-Ok-clause-flag : goal.returns-in-Ok-clause-flag
returns-in-Ok-clause-flag c =
    let spot = spot_of c.args.reader.now in
    let item = c.in_ok-item.item in
    let value = boolean_value c.in-Ok.flag item.content.now c.in-Ok.ensures.found.1 in
    sym (flag_at-next spot (sym c.is_next.ensures ∙ c.if-not-is_next.false) ∙ ap is_true_content (sym c.in_ok-item.ensures.item.content) ∙ value)

pub returns-in-Ok-clause-next : goal.returns-in-Ok-clause-next
returns-in-Ok-clause-next c =
    c.in_ok-item.ensures.next ∙ sym (after_next boolean_tag (spot_of c.args.reader.now) (sym c.is_next.ensures ∙ c.if-not-is_next.false))

pub returns-in-Err-clause-fault : goal.returns-in-Err-clause-fault
unfolding flag_fault
returns-in-Err-clause-fault c =
    let spot = spot_of c.args.reader.now in
    let item = c.in_ok-item.item in
    let is = c.in_ok-item.ensures.item in
    let next : is_next boolean_tag spot ≡ true = sym c.is_next.ensures ∙ c.if-not-is_next.false in
    let tag : item.tag ≡ boolean_tag = is.tag ∙ next_tag boolean_tag spot next in
    let test = fails is_boolean spot item is
    (λ e. absurd (cc (c.in-Err.ensures.only (is_true_content item.content.now) tag (IsBoolean_from_test item.content.now e)))) in
    rw (next, c.in_ok-item.ensures.ok, test) (ap (λ (x : Fault). Some x) (sym (c.part_fault.ensures spot is)))
