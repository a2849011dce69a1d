use Rattle.std.proofs.Common.{◌≡◌, None, refl, sym, ◌∙◌}
use Rattle.std.proofs.lemmas.Result.{MatchResult-weaker}
use Rattle.sz_der.specs.Spots.{spot_of}
use Rattle.sz_der.specs.Tags.{context_constructed}
use Rattle.sz_der.proofs.Optional.{after_next, after_other}
use Rattle.sz_der.proofs.Steps.{exit}
use Rattle.sz_x509.specs.CertFault.{end}
use Rattle.sz_x509.specs.CrlFault.{list_extensions_fault}
use Rattle.sz_x509.specs.declared.fault.CertKind.TheVariants as kinds
use Rattle.sz_x509.proofs.tbs_list.skip_list_extensions.Goals as goal

pub returns-then-not-is_next-clause-ok : goal.returns-then-not-is_next-clause-ok
unfolding list_extensions_fault
returns-then-not-is_next-clause-ok c =
    rw (sym c.is_next.ensures ∙ c.if-not-is_next.true) refl

pub returns-then-not-is_next-clause-next : goal.returns-then-not-is_next-clause-next
returns-then-not-is_next-clause-next c =
    sym (after_other context_constructed (spot_of c.args.reader.now) (sym c.is_next.ensures ∙ c.if-not-is_next.true))

pub returns-in_err-item-clause-fault : goal.returns-in_err-item-clause-fault
unfolding list_extensions_fault
returns-in_err-item-clause-fault c =
    exit _ _ c.in_err-item.field-0.0 c.from_residual.ensures.1 (rw (sym c.is_next.ensures ∙ c.if-not-is_next.false, c.in_err-item.ensures.fault) refl)

pub returns-in_err-extensions-clause-fault : goal.returns-in_err-extensions-clause-fault
unfolding list_extensions_fault
returns-in_err-extensions-clause-fault c =
    let inner = c.parts_of-field.ensures (spot_of c.args.reader.now) c.in_ok-item.ensures.item in
    exit _ _ c.in_err-extensions.field-0.0 c.from_residual-in_err-extensions.ensures.1 (rw (
      sym c.is_next.ensures ∙ c.if-not-is_next.false,
      c.in_ok-item.ensures.ok,
      ← inner,
      c.in_err-extensions.ensures.fault,
    ) refl)

pub returns-in_err-pass_over_extensions-clause-fault : goal.returns-in_err-pass_over_extensions-clause-fault
unfolding list_extensions_fault
returns-in_err-pass_over_extensions-clause-fault c =
    let inner = c.parts_of-field.ensures (spot_of c.args.reader.now) c.in_ok-item.ensures.item in
    exit _ _ c.in_err-pass_over_extensions.field-0.0 c.from_residual-in_err-pass_over_extensions.ensures.1 (rw (
      sym c.is_next.ensures ∙ c.if-not-is_next.false,
      c.in_ok-item.ensures.ok,
      ← inner,
      c.in_ok-extensions.ensures.ok,
      ← c.in_ok-extensions.ensures.inside,
      c.in_err-pass_over_extensions.ensures.fault,
    ) refl)

pub returns-clause-ok : goal.returns-clause-ok
unfolding list_extensions_fault
returns-clause-ok c =
    let inner = c.parts_of-field.ensures (spot_of c.args.reader.now) c.in_ok-item.ensures.item in
    MatchResult-weaker c.expect_end.result c.expect_end.ensures.ok
    (λ x (e : end kinds.Der (spot_of c.open_part.new.reader) ≡ None). rw (
      sym c.is_next.ensures ∙ c.if-not-is_next.false,
      c.in_ok-item.ensures.ok,
      ← inner,
      c.in_ok-extensions.ensures.ok,
      ← c.in_ok-extensions.ensures.inside,
      c.in_ok-pass_over_extensions.ensures.ok,
      ← c.in_ok-extensions.ensures.next,
      e,
    ) refl) (λ x h. h)

pub returns-clause-next : goal.returns-clause-next
returns-clause-next c =
    let next = c.in_ok-item.ensures.next ∙ sym (after_next context_constructed (spot_of c.args.reader.now) (sym c.is_next.ensures ∙ c.if-not-is_next.false)) in
    MatchResult-weaker c.expect_end.result c.expect_end.ensures.ok (λ x h. next) (λ x h. h)

pub returns-clause-fault : goal.returns-clause-fault
unfolding list_extensions_fault
returns-clause-fault c =
    let inner = c.parts_of-field.ensures (spot_of c.args.reader.now) c.in_ok-item.ensures.item in
    MatchResult-weaker c.expect_end.result c.expect_end.ensures.fault (λ x h. h)
    (λ x e. rw (
      sym c.is_next.ensures ∙ c.if-not-is_next.false,
      c.in_ok-item.ensures.ok,
      ← inner,
      c.in_ok-extensions.ensures.ok,
      ← c.in_ok-extensions.ensures.inside,
      c.in_ok-pass_over_extensions.ensures.ok,
      ← c.in_ok-extensions.ensures.next,
      e,
    ) refl)
