use Rattle.std.proofs.Common.{refl}
use Rattle.sz_der.proofs.Steps.{exit}
use Rattle.sz_cms.specs.MessageFault.{info_fault}
use Rattle.sz_cms.specs.Places.{info_at}
use Rattle.sz_cms.proofs.Readings.{front_is}
use Rattle.sz_cms.proofs.reading.read_message.Goals as goal

pub returns-in_err-parts-clause-fault : goal.returns-in_err-parts-clause-fault
unfolding info_fault
returns-in_err-parts-clause-fault c =
    exit _ _ c.in_err-parts.field-0.0 c.from_residual.ensures.1
    (rw (← front_is c.args.bytes.now c.over-whole.result c.over-whole.ensures.left c.over-whole.ensures.end, c.in_err-parts.ensures.fault) refl)

pub returns-in_err-identifier-clause-fault : goal.returns-in_err-identifier-clause-fault
unfolding info_fault
returns-in_err-identifier-clause-fault c =
    exit _ _ c.in_err-identifier.field-0.0 c.from_residual-in_err-identifier.ensures.1
    (rw (
      ← front_is c.args.bytes.now c.over-whole.result c.over-whole.ensures.left c.over-whole.ensures.end,
      c.in_ok-parts.ensures.ok,
      ← c.in_ok-parts.ensures.inside,
      c.in_err-identifier.ensures.fault,
    ) refl)

pub returns-in_err-content-clause-fault : goal.returns-in_err-content-clause-fault
unfolding info_fault
returns-in_err-content-clause-fault c =
    exit _ _ c.in_err-content.field-0.0 c.from_residual-in_err-content.ensures.1
    (rw (
      ← front_is c.args.bytes.now c.over-whole.result c.over-whole.ensures.left c.over-whole.ensures.end,
      c.in_ok-parts.ensures.ok,
      ← c.in_ok-parts.ensures.inside,
      c.in_ok-identifier.ensures.ok,
      ← c.in_ok-identifier.ensures.next,
      c.in_err-content.ensures.fault,
    ) refl)

pub returns-in_err-info-clause-fault : goal.returns-in_err-info-clause-fault
unfolding info_fault
returns-in_err-info-clause-fault c =
    exit _ _ c.in_err-info.field-0.0 c.from_residual-in_err-info.ensures.1
    (rw (
      ← front_is c.args.bytes.now c.over-whole.result c.over-whole.ensures.left c.over-whole.ensures.end,
      c.in_ok-parts.ensures.ok,
      ← c.in_ok-parts.ensures.inside,
      c.in_ok-identifier.ensures.ok,
      ← c.in_ok-identifier.ensures.next,
      c.in_ok-content.ensures.ok,
      ← c.in_ok-content.ensures.inside,
      ← c.in_ok-identifier.ensures.item.content,
      c.in_err-info.ensures.fault,
    ) refl)

pub returns-in_err-expect_end-clause-fault : goal.returns-in_err-expect_end-clause-fault
unfolding info_fault
returns-in_err-expect_end-clause-fault c =
    exit _ _ c.in_err-expect_end.field-0.0 c.from_residual-in_err-expect_end.ensures.1
    (rw (
      ← front_is c.args.bytes.now c.over-whole.result c.over-whole.ensures.left c.over-whole.ensures.end,
      c.in_ok-parts.ensures.ok,
      ← c.in_ok-parts.ensures.inside,
      c.in_ok-identifier.ensures.ok,
      ← c.in_ok-identifier.ensures.next,
      c.in_ok-content.ensures.ok,
      ← c.in_ok-content.ensures.inside,
      ← c.in_ok-identifier.ensures.item.content,
      c.in_ok-info.ensures.ok,
      ← c.in_ok-content.ensures.next,
      c.in_err-expect_end.ensures.fault,
    ) refl)

pub returns-in_err-expect_end-2-clause-fault : goal.returns-in_err-expect_end-2-clause-fault
unfolding info_fault
returns-in_err-expect_end-2-clause-fault c =
    exit _ _ c.in_err-expect_end-2.field-0.0 c.from_residual-in_err-expect_end-2.ensures.1
    (rw (
      ← front_is c.args.bytes.now c.over-whole.result c.over-whole.ensures.left c.over-whole.ensures.end,
      c.in_ok-parts.ensures.ok,
      ← c.in_ok-parts.ensures.inside,
      c.in_ok-identifier.ensures.ok,
      ← c.in_ok-identifier.ensures.next,
      c.in_ok-content.ensures.ok,
      ← c.in_ok-content.ensures.inside,
      ← c.in_ok-identifier.ensures.item.content,
      c.in_ok-info.ensures.ok,
      ← c.in_ok-content.ensures.next,
      c.in_ok-expect_end.ensures.ok,
      ← c.in_ok-parts.ensures.next,
      c.in_err-expect_end-2.ensures.fault,
    ) refl)

pub returns-clause-ok : goal.returns-clause-ok
unfolding info_fault
returns-clause-ok c =
    rw (
      ← front_is c.args.bytes.now c.over-whole.result c.over-whole.ensures.left c.over-whole.ensures.end,
      c.in_ok-parts.ensures.ok,
      ← c.in_ok-parts.ensures.inside,
      c.in_ok-identifier.ensures.ok,
      ← c.in_ok-identifier.ensures.next,
      c.in_ok-content.ensures.ok,
      ← c.in_ok-content.ensures.inside,
      ← c.in_ok-identifier.ensures.item.content,
      c.in_ok-info.ensures.ok,
      ← c.in_ok-content.ensures.next,
      c.in_ok-expect_end.ensures.ok,
      ← c.in_ok-parts.ensures.next,
      c.in_ok-expect_end-2.ensures.ok,
    ) refl

pub returns-clause-info : goal.returns-clause-info
unfolding info_at
returns-clause-info c =
    rw (
      ← front_is c.args.bytes.now c.over-whole.result c.over-whole.ensures.left c.over-whole.ensures.end,
      ← c.in_ok-parts.ensures.inside,
      ← c.in_ok-identifier.ensures.next,
      ← c.in_ok-content.ensures.inside,
      ← c.in_ok-identifier.ensures.item.content,
    ) c.in_ok-info.ensures.info
