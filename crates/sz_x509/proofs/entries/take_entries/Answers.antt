use Rattle.std.proofs.Common.{refl, sym, ◌∙◌}
use Rattle.sz_der.specs.Spots.{spot_of}
use Rattle.sz_der.specs.Tags.{sequence_tag}
use Rattle.sz_der.proofs.Optional.{after_next, after_other}
use Rattle.sz_der.proofs.Steps.{exit}
use Rattle.sz_x509.specs.CrlFault.{revoked_fault}
use Rattle.sz_x509.proofs.CrlParts.{entries_next, entries_other}
use Rattle.sz_x509.proofs.entries.take_entries.Goals as goal

pub returns-then-not-is_next-clause-ok : goal.returns-then-not-is_next-clause-ok
unfolding revoked_fault
returns-then-not-is_next-clause-ok c =
    rw (sym c.is_next.ensures ∙ c.if-not-is_next.true) refl

pub returns-then-not-is_next-clause-entries : goal.returns-then-not-is_next-clause-entries
returns-then-not-is_next-clause-entries c =
    sym (entries_other (spot_of c.args.reader.now) (sym c.is_next.ensures ∙ c.if-not-is_next.true))

pub returns-then-not-is_next-clause-next : goal.returns-then-not-is_next-clause-next
returns-then-not-is_next-clause-next c =
    sym (after_other sequence_tag (spot_of c.args.reader.now) (sym c.is_next.ensures ∙ c.if-not-is_next.true))

pub returns-in_err-item-clause-fault : goal.returns-in_err-item-clause-fault
unfolding revoked_fault
returns-in_err-item-clause-fault c =
    exit _ _ c.in_err-item.field-0.0 c.from_residual.ensures.1 (rw (sym c.is_next.ensures ∙ c.if-not-is_next.false, c.in_err-item.ensures.fault) refl)

pub returns-in_err-read_entries-clause-fault : goal.returns-in_err-read_entries-clause-fault
unfolding revoked_fault
returns-in_err-read_entries-clause-fault c =
    let inner = c.parts_of.ensures (spot_of c.args.reader.now) c.in_ok-item.ensures.item in
    exit _ _ c.in_err-read_entries.field-0.0 c.from_residual-in_err-read_entries.ensures.1 (rw (
      sym c.is_next.ensures ∙ c.if-not-is_next.false,
      c.in_ok-item.ensures.ok,
      ← inner,
      c.in_err-read_entries.ensures.fault,
    ) refl)

pub returns-clause-ok : goal.returns-clause-ok
unfolding revoked_fault
returns-clause-ok c =
    let inner = c.parts_of.ensures (spot_of c.args.reader.now) c.in_ok-item.ensures.item in
    rw (sym c.is_next.ensures ∙ c.if-not-is_next.false, c.in_ok-item.ensures.ok, ← inner, c.in_ok-read_entries.ensures.ok) refl

pub returns-clause-entries : goal.returns-clause-entries
returns-clause-entries c =
    c.in_ok-item.ensures.item.content ∙ sym (entries_next (spot_of c.args.reader.now) (sym c.is_next.ensures ∙ c.if-not-is_next.false))

pub returns-clause-next : goal.returns-clause-next
returns-clause-next c =
    c.in_ok-item.ensures.next ∙ sym (after_next sequence_tag (spot_of c.args.reader.now) (sym c.is_next.ensures ∙ c.if-not-is_next.false))
