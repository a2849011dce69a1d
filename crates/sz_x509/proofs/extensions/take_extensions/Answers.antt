use Rattle.std.proofs.Common.{refl, sym, ◌∙◌}
use Rattle.sz_der.specs.Spots.{spot_of}
use Rattle.sz_der.proofs.Optional.{after_next, after_other}
use Rattle.sz_der.proofs.Steps.{exit}
use Rattle.sz_x509.specs.CertFault.{extensions_fault}
use Rattle.sz_x509.specs.Tags.{extensions_tag}
use Rattle.sz_x509.proofs.Adding.{restricted_by_none}
use Rattle.sz_x509.proofs.Whole.{spots_next, spots_other}
use Rattle.sz_x509.proofs.extensions.take_extensions.Goals as goal

pub returns-then-not-is_next-clause-ok : goal.returns-then-not-is_next-clause-ok
unfolding extensions_fault
returns-then-not-is_next-clause-ok c =
    rw (sym c.is_next.ensures ∙ c.if-not-is_next.true) refl

pub returns-then-not-is_next-clause-restricted : goal.returns-then-not-is_next-clause-restricted
returns-then-not-is_next-clause-restricted c =
    rw (spots_other (spot_of c.args.reader.now) (sym c.is_next.ensures ∙ c.if-not-is_next.true)) restricted_by_none

pub returns-then-not-is_next-clause-next : goal.returns-then-not-is_next-clause-next
returns-then-not-is_next-clause-next c =
    sym (after_other extensions_tag (spot_of c.args.reader.now) (sym c.is_next.ensures ∙ c.if-not-is_next.true))

pub returns-in_err-item-clause-fault : goal.returns-in_err-item-clause-fault
unfolding extensions_fault
returns-in_err-item-clause-fault c =
    exit _ _ c.in_err-item.field-0.0 c.from_residual.ensures.1 (rw (sym c.is_next.ensures ∙ c.if-not-is_next.false, c.in_err-item.ensures.fault) refl)

pub returns-in_err-extensions-clause-fault : goal.returns-in_err-extensions-clause-fault
unfolding extensions_fault
returns-in_err-extensions-clause-fault c =
    let inner = c.parts_of-field.ensures (spot_of c.args.reader.now) c.in_ok-item.ensures.item in
    exit _ _ c.in_err-extensions.field-0.0 c.from_residual-in_err-extensions.ensures.1 (rw (
      sym c.is_next.ensures ∙ c.if-not-is_next.false,
      c.in_ok-item.ensures.ok,
      ← inner,
      c.in_err-extensions.ensures.fault,
    ) refl)

pub returns-in_err-restrictions-clause-fault : goal.returns-in_err-restrictions-clause-fault
unfolding extensions_fault
returns-in_err-restrictions-clause-fault c =
    let inner = c.parts_of-field.ensures (spot_of c.args.reader.now) c.in_ok-item.ensures.item in
    exit _ _ c.in_err-restrictions.field-0.0 c.from_residual-in_err-restrictions.ensures.1 (rw (
      sym c.is_next.ensures ∙ c.if-not-is_next.false,
      c.in_ok-item.ensures.ok,
      ← inner,
      c.in_ok-extensions.ensures.ok,
      ← c.in_ok-extensions.ensures.inside,
      c.in_err-restrictions.ensures.fault,
    ) refl)

pub returns-in_err-expect_end-clause-fault : goal.returns-in_err-expect_end-clause-fault
unfolding extensions_fault
returns-in_err-expect_end-clause-fault c =
    let inner = c.parts_of-field.ensures (spot_of c.args.reader.now) c.in_ok-item.ensures.item in
    exit _ _ c.in_err-expect_end.field-0.0 c.from_residual-in_err-expect_end.ensures.1 (rw (
      sym c.is_next.ensures ∙ c.if-not-is_next.false,
      c.in_ok-item.ensures.ok,
      ← inner,
      c.in_ok-extensions.ensures.ok,
      ← c.in_ok-extensions.ensures.inside,
      c.in_ok-restrictions.ensures.ok,
      ← c.in_ok-extensions.ensures.next,
      c.in_err-expect_end.ensures.fault,
    ) refl)

pub returns-clause-ok : goal.returns-clause-ok
unfolding extensions_fault
returns-clause-ok c =
    let inner = c.parts_of-field.ensures (spot_of c.args.reader.now) c.in_ok-item.ensures.item in
    rw (
      sym c.is_next.ensures ∙ c.if-not-is_next.false,
      c.in_ok-item.ensures.ok,
      ← inner,
      c.in_ok-extensions.ensures.ok,
      ← c.in_ok-extensions.ensures.inside,
      c.in_ok-restrictions.ensures.ok,
      ← c.in_ok-extensions.ensures.next,
      c.in_ok-expect_end.ensures.ok,
    ) refl

pub returns-clause-restricted : goal.returns-clause-restricted
returns-clause-restricted c =
    let inner = c.parts_of-field.ensures (spot_of c.args.reader.now) c.in_ok-item.ensures.item in
    rw (spots_next (spot_of c.args.reader.now) (sym c.is_next.ensures ∙ c.if-not-is_next.false), ← inner, ← c.in_ok-extensions.ensures.inside)
    c.in_ok-restrictions.ensures.restricted

pub returns-clause-next : goal.returns-clause-next
returns-clause-next c =
    c.in_ok-item.ensures.next ∙ sym (after_next extensions_tag (spot_of c.args.reader.now) (sym c.is_next.ensures ∙ c.if-not-is_next.false))
