use Rattle.std.proofs.Common.{refl, sym, ap, ◌∙◌, Some, ℤ}
use Rattle.sz_der.specs.Spots.{spot_of}
use Rattle.sz_der.proofs.Steps.{exit}
use Rattle.sz_x509.specs.CrlFault.{next_update_fault}
use Rattle.sz_x509.proofs.CrlParts.{after_no_time, after_time, next_time, no_next_time}
use Rattle.sz_x509.proofs.tbs_list.take_next_update.Goals as goal

pub returns-then-not-is_time_next-clause-ok : goal.returns-then-not-is_time_next-clause-ok
unfolding next_update_fault
returns-then-not-is_time_next-clause-ok c =
    rw (sym c.is_time_next.ensures ∙ c.if-not-is_time_next.true) refl

pub returns-then-not-is_time_next-clause-seconds : goal.returns-then-not-is_time_next-clause-seconds
returns-then-not-is_time_next-clause-seconds c =
    sym (no_next_time (spot_of c.args.reader.now) (sym c.is_time_next.ensures ∙ c.if-not-is_time_next.true))

pub returns-then-not-is_time_next-clause-next : goal.returns-then-not-is_time_next-clause-next
returns-then-not-is_time_next-clause-next c =
    sym (after_no_time (spot_of c.args.reader.now) (sym c.is_time_next.ensures ∙ c.if-not-is_time_next.true))

pub returns-in_err-seconds-clause-fault : goal.returns-in_err-seconds-clause-fault
unfolding next_update_fault
returns-in_err-seconds-clause-fault c =
    exit _ _ c.in_err-seconds.field-0.0 c.from_residual.ensures.1 (rw (
      sym c.is_time_next.ensures ∙ c.if-not-is_time_next.false,
      c.in_err-seconds.ensures.fault,
    ) refl)

pub returns-clause-ok : goal.returns-clause-ok
unfolding next_update_fault
returns-clause-ok c =
    rw (sym c.is_time_next.ensures ∙ c.if-not-is_time_next.false, c.in_ok-seconds.ensures.ok) refl

pub returns-clause-seconds : goal.returns-clause-seconds
returns-clause-seconds c =
    let next = sym c.is_time_next.ensures ∙ c.if-not-is_time_next.false in
    ap (λ (x : ℤ). Some x) c.in_ok-seconds.ensures.seconds ∙ sym (next_time (spot_of c.args.reader.now) next)

pub returns-clause-next : goal.returns-clause-next
returns-clause-next c =
    c.in_ok-seconds.ensures.next ∙ sym (after_time (spot_of c.args.reader.now) (sym c.is_time_next.ensures ∙ c.if-not-is_time_next.false))
