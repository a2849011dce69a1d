use Rattle.std.proofs.Common.{◌≡◌, true, false, None, Some, refl, sym, ap, ◌∙◌}
use Rattle.std.proofs.lemmas.Result.{MatchResult-weaker}
use Rattle.sz_der.specs.Spots.{spot_of}
use Rattle.sz_der.specs.Tags.{sequence_tag}
use Rattle.sz_der.proofs.Steps.{exit}
use Rattle.sz_x509.specs.CertFault.{end, Fault, flag_at, flag_spot, value_spot}
use Rattle.sz_x509.specs.CrlFault.{passed_over_fault}
use Rattle.sz_x509.specs.declared.fault.CertKind.TheVariants as kinds
use Rattle.sz_x509.proofs.Walking.{shorter_after}
use Rattle.sz_x509.proofs.entries.pass_over_extension.Goals as goal

pub returns-in_err-extension-clause-fault : goal.returns-in_err-extension-clause-fault
unfolding passed_over_fault flag_spot value_spot
returns-in_err-extension-clause-fault c =
    exit _ _ c.in_err-extension.field-0.0 c.from_residual.ensures.1 (rw c.in_err-extension.ensures.fault refl)

pub returns-in_err-_identifier-clause-fault : goal.returns-in_err-_identifier-clause-fault
unfolding passed_over_fault flag_spot value_spot
returns-in_err-_identifier-clause-fault c =
    let inner = c.parts_of-parts.ensures (spot_of c.args.reader.now) c.in_ok-extension.ensures.item in
    exit _ _ c.in_err-_identifier.field-0.0 c.from_residual-in_err-_identifier.ensures.1 (rw (
      c.in_ok-extension.ensures.ok,
      ← inner,
      c.in_err-_identifier.ensures.fault,
    ) refl)

pub returns-in_err-critical-clause-fault : goal.returns-in_err-critical-clause-fault
unfolding passed_over_fault flag_spot value_spot
returns-in_err-critical-clause-fault c =
    let inner = c.parts_of-parts.ensures (spot_of c.args.reader.now) c.in_ok-extension.ensures.item in
    exit _ _ c.in_err-critical.field-0.0 c.from_residual-in_err-critical.ensures.1 (rw (
      c.in_ok-extension.ensures.ok,
      ← inner,
      c.in_ok-_identifier.ensures.ok,
      ← c.in_ok-_identifier.ensures.next,
      c.in_err-critical.ensures.fault,
    ) refl)

pub returns-then-critical-clause-fault : goal.returns-then-critical-clause-fault
unfolding passed_over_fault flag_spot value_spot
returns-then-critical-clause-fault c =
    let inner = c.parts_of-parts.ensures (spot_of c.args.reader.now) c.in_ok-extension.ensures.item in
    let flag : flag_at (spot_of c.take_part-2.new.reader) ≡ true = sym c.in_ok-critical.ensures.flag ∙ c.if-critical.true in
    rw (c.in_ok-extension.ensures.ok, ← inner, c.in_ok-_identifier.ensures.ok, ← c.in_ok-_identifier.ensures.next, c.in_ok-critical.ensures.ok, flag)
    (ap (λ (x : Fault). Some x) (sym (c.part_fault.ensures (spot_of c.args.reader.now) c.in_ok-extension.ensures.item)))

pub returns-in_err-_value-clause-fault : goal.returns-in_err-_value-clause-fault
unfolding passed_over_fault flag_spot value_spot
returns-in_err-_value-clause-fault c =
    let inner = c.parts_of-parts.ensures (spot_of c.args.reader.now) c.in_ok-extension.ensures.item in
    let flag : flag_at (spot_of c.take_part-2.new.reader) ≡ false = sym c.in_ok-critical.ensures.flag ∙ c.if-critical.false in
    exit _ _ c.in_err-_value.field-0.0 c.from_residual-in_err-_value.ensures.1 (rw (
      c.in_ok-extension.ensures.ok,
      ← inner,
      c.in_ok-_identifier.ensures.ok,
      ← c.in_ok-_identifier.ensures.next,
      c.in_ok-critical.ensures.ok,
      flag,
      ← c.in_ok-critical.ensures.next,
      c.in_err-_value.ensures.fault,
    ) refl)

pub returns-clause-ok : goal.returns-clause-ok
unfolding passed_over_fault flag_spot value_spot
returns-clause-ok c =
    let inner = c.parts_of-parts.ensures (spot_of c.args.reader.now) c.in_ok-extension.ensures.item in
    let flag : flag_at (spot_of c.take_part-2.new.reader) ≡ false = sym c.in_ok-critical.ensures.flag ∙ c.if-critical.false in
    MatchResult-weaker c.expect_end.result c.expect_end.ensures.ok
    (λ x (e : end kinds.Der (spot_of c.take_part-3.new.reader) ≡ None). rw (
      c.in_ok-extension.ensures.ok,
      ← inner,
      c.in_ok-_identifier.ensures.ok,
      ← c.in_ok-_identifier.ensures.next,
      c.in_ok-critical.ensures.ok,
      flag,
      ← c.in_ok-critical.ensures.next,
      c.in_ok-_value.ensures.ok,
      ← c.in_ok-_value.ensures.next,
      e,
    ) refl) (λ x h. h)

pub returns-clause-fault : goal.returns-clause-fault
unfolding passed_over_fault flag_spot value_spot
returns-clause-fault c =
    let inner = c.parts_of-parts.ensures (spot_of c.args.reader.now) c.in_ok-extension.ensures.item in
    let flag : flag_at (spot_of c.take_part-2.new.reader) ≡ false = sym c.in_ok-critical.ensures.flag ∙ c.if-critical.false in
    MatchResult-weaker c.expect_end.result c.expect_end.ensures.fault (λ x h. h)
    (λ x e. rw (
      c.in_ok-extension.ensures.ok,
      ← inner,
      c.in_ok-_identifier.ensures.ok,
      ← c.in_ok-_identifier.ensures.next,
      c.in_ok-critical.ensures.ok,
      flag,
      ← c.in_ok-critical.ensures.next,
      c.in_ok-_value.ensures.ok,
      ← c.in_ok-_value.ensures.next,
      e,
    ) refl)

pub returns-clause-shorter : goal.returns-clause-shorter
returns-clause-shorter c =
    let less = shorter_after kinds.Der sequence_tag c.args.reader.now c.take_part.new.reader c.in_ok-extension.ensures.ok c.in_ok-extension.ensures.next in
    MatchResult-weaker c.expect_end.result c.expect_end.ensures.ok (λ x h. less) (λ x h. h)
