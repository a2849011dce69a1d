use Rattle.std.proofs.Common.{refl, sym, ◌∙◌}
use Rattle.std.proofs.lemmas.Result.{MatchResult-weaker}
use Rattle.sz_der.specs.Spots.{spot_of}
use Rattle.sz_der.proofs.Optional.{after_next, after_other}
use Rattle.sz_der.proofs.Steps.{exit}
use Rattle.sz_cms.specs.MessageFault.{choices_fault}
use Rattle.sz_cms.specs.Places.{choices_at}
use Rattle.sz_cms.proofs.Readings.{on_ok}
use Rattle.sz_cms.proofs.reading.take_choices.Goals as goal

pub returns-then-not-is_next-clause-ok : goal.returns-then-not-is_next-clause-ok
unfolding choices_fault
returns-then-not-is_next-clause-ok g c =
    rw (sym c.is_next.ensures ∙ c.if-not-is_next.true) refl

pub returns-then-not-is_next-clause-kept : goal.returns-then-not-is_next-clause-kept
unfolding choices_at
returns-then-not-is_next-clause-kept g c =
    rw (sym c.is_next.ensures ∙ c.if-not-is_next.true, c.new.ensures) refl

pub returns-then-not-is_next-clause-next : goal.returns-then-not-is_next-clause-next
returns-then-not-is_next-clause-next g c =
    sym (after_other c.args.tag (spot_of c.args.reader.now) (sym c.is_next.ensures ∙ c.if-not-is_next.true))

pub returns-in_err-field-clause-fault : goal.returns-in_err-field-clause-fault
unfolding choices_fault
returns-in_err-field-clause-fault g c =
    exit _ _ c.in_err-field.field-0.0 c.from_residual.ensures.1 (rw (sym c.is_next.ensures ∙ c.if-not-is_next.false, c.in_err-field.ensures.fault) refl)

pub returns-clause-ok : goal.returns-clause-ok
unfolding choices_fault
returns-clause-ok g c =
    MatchResult-weaker c.read_choices.result c.read_choices.ensures.ok (λ x e. rw (
      sym c.is_next.ensures ∙ c.if-not-is_next.false,
      c.in_ok-field.ensures.ok,
      ← c.parts_of.ensures (spot_of c.args.reader.now) c.in_ok-field.ensures.item,
      e,
    ) refl) (λ x p. p)

pub returns-clause-kept : goal.returns-clause-kept
unfolding choices_at
returns-clause-kept g c =
    rw (sym c.is_next.ensures ∙ c.if-not-is_next.false, ← c.parts_of.ensures (spot_of c.args.reader.now) c.in_ok-field.ensures.item) c.read_choices.ensures.kept

pub returns-clause-next : goal.returns-clause-next
returns-clause-next g c =
    on_ok c.read_choices.result
    (c.in_ok-field.ensures.next ∙ sym (after_next c.args.tag (spot_of c.args.reader.now) (sym c.is_next.ensures ∙ c.if-not-is_next.false)))

pub returns-clause-fault : goal.returns-clause-fault
unfolding choices_fault
returns-clause-fault g c =
    MatchResult-weaker c.read_choices.result c.read_choices.ensures.fault (λ x p. p) (λ x e. rw (
      sym c.is_next.ensures ∙ c.if-not-is_next.false,
      c.in_ok-field.ensures.ok,
      ← c.parts_of.ensures (spot_of c.args.reader.now) c.in_ok-field.ensures.item,
      e,
    ) refl)
