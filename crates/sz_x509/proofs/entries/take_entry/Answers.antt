use Rattle.std.proofs.Common.{◌≡◌, None, refl}
use Rattle.std.proofs.lemmas.Result.{MatchResult-weaker}
use Rattle.sz_der.specs.Spots.{spot_of}
use Rattle.sz_der.specs.Tags.{sequence_tag}
use Rattle.sz_der.proofs.Steps.{exit}
use Rattle.sz_x509.specs.CertFault.{end}
use Rattle.sz_x509.specs.CrlFault.{entry_fault}
use Rattle.sz_x509.specs.declared.fault.CertKind.TheVariants as kinds
use Rattle.sz_x509.proofs.Walking.{shorter_after}
use Rattle.sz_x509.proofs.entries.take_entry.Goals as goal

pub returns-in_err-parts-clause-fault : goal.returns-in_err-parts-clause-fault
unfolding entry_fault
returns-in_err-parts-clause-fault c =
    exit _ _ c.in_err-parts.field-0.0 c.from_residual.ensures.1 (rw c.in_err-parts.ensures.fault refl)

pub returns-in_err-_serial-clause-fault : goal.returns-in_err-_serial-clause-fault
unfolding entry_fault
returns-in_err-_serial-clause-fault c =
    exit _ _ c.in_err-_serial.field-0.0 c.from_residual-in_err-_serial.ensures.1 (rw (
      c.in_ok-parts.ensures.ok,
      ← c.in_ok-parts.ensures.inside,
      c.in_err-_serial.ensures.fault,
    ) refl)

pub returns-in_err-_date-clause-fault : goal.returns-in_err-_date-clause-fault
unfolding entry_fault
returns-in_err-_date-clause-fault c =
    exit _ _ c.in_err-_date.field-0.0 c.from_residual-in_err-_date.ensures.1 (rw (
      c.in_ok-parts.ensures.ok,
      ← c.in_ok-parts.ensures.inside,
      c.in_ok-_serial.ensures.ok,
      ← c.in_ok-_serial.ensures.next,
      c.in_err-_date.ensures.fault,
    ) refl)

pub returns-in_err-skip_entry_extensions-clause-fault : goal.returns-in_err-skip_entry_extensions-clause-fault
unfolding entry_fault
returns-in_err-skip_entry_extensions-clause-fault c =
    exit _ _ c.in_err-skip_entry_extensions.field-0.0 c.from_residual-in_err-skip_entry_extensions.ensures.1 (rw (
      c.in_ok-parts.ensures.ok,
      ← c.in_ok-parts.ensures.inside,
      c.in_ok-_serial.ensures.ok,
      ← c.in_ok-_serial.ensures.next,
      c.in_ok-_date.ensures.ok,
      ← c.in_ok-_date.ensures.next,
      c.in_err-skip_entry_extensions.ensures.fault,
    ) refl)

pub returns-clause-ok : goal.returns-clause-ok
unfolding entry_fault
returns-clause-ok c =
    MatchResult-weaker c.expect_end.result c.expect_end.ensures.ok
    (λ x (e : end kinds.Der (spot_of c.skip_entry_extensions.new.reader) ≡ None). rw (
      c.in_ok-parts.ensures.ok,
      ← c.in_ok-parts.ensures.inside,
      c.in_ok-_serial.ensures.ok,
      ← c.in_ok-_serial.ensures.next,
      c.in_ok-_date.ensures.ok,
      ← c.in_ok-_date.ensures.next,
      c.in_ok-skip_entry_extensions.ensures.ok,
      ← c.in_ok-skip_entry_extensions.ensures.next,
      e,
    ) refl) (λ x h. h)

pub returns-clause-fault : goal.returns-clause-fault
unfolding entry_fault
returns-clause-fault c =
    MatchResult-weaker c.expect_end.result c.expect_end.ensures.fault (λ x h. h)
    (λ x e. rw (
      c.in_ok-parts.ensures.ok,
      ← c.in_ok-parts.ensures.inside,
      c.in_ok-_serial.ensures.ok,
      ← c.in_ok-_serial.ensures.next,
      c.in_ok-_date.ensures.ok,
      ← c.in_ok-_date.ensures.next,
      c.in_ok-skip_entry_extensions.ensures.ok,
      ← c.in_ok-skip_entry_extensions.ensures.next,
      e,
    ) refl)

pub returns-clause-shorter : goal.returns-clause-shorter
returns-clause-shorter c =
    let less = shorter_after kinds.Der sequence_tag c.args.reader.now c.open_part.new.reader c.in_ok-parts.ensures.ok c.in_ok-parts.ensures.next in
    MatchResult-weaker c.expect_end.result c.expect_end.ensures.ok (λ x h. less) (λ x h. h)
