use Rattle.std.proofs.Common.{◌≡◌, None, refl, sym, ◌∙◌}
use Rattle.std.proofs.lemmas.Result.{MatchResult-weaker}
use Rattle.sz_der.specs.Spots.{each, spot_of, spots_from}
use Rattle.sz_der.specs.Tags.{sequence_tag}
use Rattle.sz_der.proofs.Optional.{after_next, after_other}
use Rattle.sz_der.proofs.Steps.{exit}
use Rattle.sz_x509.specs.CrlFault.{entry_extensions_fault, passed_over_fault}
use Rattle.sz_x509.proofs.entries.skip_entry_extensions.Goals as goal

pub returns-then-not-is_next-clause-ok : goal.returns-then-not-is_next-clause-ok
unfolding entry_extensions_fault
returns-then-not-is_next-clause-ok c =
    rw (sym c.is_next.ensures ∙ c.if-not-is_next.true) refl

pub returns-then-not-is_next-clause-next : goal.returns-then-not-is_next-clause-next
returns-then-not-is_next-clause-next c =
    sym (after_other sequence_tag (spot_of c.args.reader.now) (sym c.is_next.ensures ∙ c.if-not-is_next.true))

pub returns-in_err-item-clause-fault : goal.returns-in_err-item-clause-fault
unfolding entry_extensions_fault
returns-in_err-item-clause-fault c =
    exit _ _ c.in_err-item.field-0.0 c.from_residual.ensures.1 (rw (sym c.is_next.ensures ∙ c.if-not-is_next.false, c.in_err-item.ensures.fault) refl)

pub returns-clause-ok : goal.returns-clause-ok
unfolding entry_extensions_fault
returns-clause-ok c =
    let inner = c.parts_of.ensures (spot_of c.args.reader.now) c.in_ok-item.ensures.item in
    MatchResult-weaker c.pass_over_extensions.result c.pass_over_extensions.ensures.ok
    (λ x (e : each passed_over_fault (spots_from (spot_of c.parts_of.result)) ≡ None). rw (
      sym c.is_next.ensures ∙ c.if-not-is_next.false,
      c.in_ok-item.ensures.ok,
      ← inner,
      e,
    ) refl) (λ x h. h)

pub returns-clause-next : goal.returns-clause-next
returns-clause-next c =
    let next = c.in_ok-item.ensures.next ∙ sym (after_next sequence_tag (spot_of c.args.reader.now) (sym c.is_next.ensures ∙ c.if-not-is_next.false)) in
    MatchResult-weaker c.pass_over_extensions.result c.pass_over_extensions.ensures.ok (λ x h. next) (λ x h. h)

pub returns-clause-fault : goal.returns-clause-fault
unfolding entry_extensions_fault
returns-clause-fault c =
    let inner = c.parts_of.ensures (spot_of c.args.reader.now) c.in_ok-item.ensures.item in
    MatchResult-weaker c.pass_over_extensions.result c.pass_over_extensions.ensures.fault (λ x h. h)
    (λ x e. rw (sym c.is_next.ensures ∙ c.if-not-is_next.false, c.in_ok-item.ensures.ok, ← inner, e) refl)
