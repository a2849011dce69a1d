use Rattle.std.proofs.Common.{◌≡◌, true, false, not, ◌||◌, Some, None, refl, sym, ap, ◌∙◌, arith}
use Rattle.std.proofs.lemmas.Bool.{not_from_false, or_left, or_right}
use Rattle.std.proofs.lemmas.Result.{MatchResult-weaker}
use Rattle.sz_der.specs.Spots.{content_at, spot_of}
use Rattle.sz_der.specs.Tags.{sequence_tag}
use Rattle.sz_der.proofs.Steps.{exit}
use Rattle.sz_x509.specs.CertFault.{extension_fault, Fault, flag_at, flag_spot, identifier_at, stands_among, value_fault, value_spot}
use Rattle.sz_x509.specs.Extensions.{is_known}
use Rattle.sz_x509.specs.declared.fault.CertKind.TheVariants as kinds
use Rattle.sz_x509.proofs.Walking.{has_no_room, has_room, shorter_after}
use Rattle.sz_x509.proofs.extensions.take_extension.Goals.{else-branch-via-then-branch+else-not-is_known, else-branch-via-else-branch}
use Rattle.sz_x509.proofs.extensions.take_extension.Goals as goal

pub returns-in_err-extension-clause-fault : goal.returns-in_err-extension-clause-fault
unfolding extension_fault identifier_at flag_spot value_spot
returns-in_err-extension-clause-fault c = λ earlier lead count.
    exit _ _ c.in_err-extension.field-0.0 c.from_residual.ensures.1 (rw c.in_err-extension.ensures.fault refl)

pub returns-then-before-ge-MOST_EXTENSIONS-clause-fault : goal.returns-then-before-ge-MOST_EXTENSIONS-clause-fault
unfolding extension_fault
returns-then-before-ge-MOST_EXTENSIONS-clause-fault c = λ earlier lead count.
    let full = has_no_room earlier c.args.before count (omega (arith, c.if-before-ge-MOST_EXTENSIONS.true)) in
    rw (c.in_ok-extension.ensures.ok, full)
    (ap (λ (x : Fault). Some x) (sym (c.part_fault.ensures (spot_of c.args.reader.now) c.in_ok-extension.ensures.item)))

pub returns-in_err-identifier-clause-fault : goal.returns-in_err-identifier-clause-fault
unfolding extension_fault identifier_at flag_spot value_spot
returns-in_err-identifier-clause-fault c = λ earlier lead count.
    let room = has_room earlier c.args.before count (omega (arith, c.if-before-ge-MOST_EXTENSIONS.false)) in
    let inner = c.parts_of-parts.ensures (spot_of c.args.reader.now) c.in_ok-extension.ensures.item in
    exit _ _ c.in_err-identifier.field-0.0 c.from_residual-in_err-identifier.ensures.1 (rw (
      c.in_ok-extension.ensures.ok,
      room,
      ← inner,
      c.in_err-identifier.ensures.fault,
    ) refl)

pub returns-then-stands_before-clause-fault : goal.returns-then-stands_before-clause-fault
unfolding extension_fault identifier_at flag_spot value_spot
returns-then-stands_before-clause-fault c = λ earlier lead count.
    let room = has_room earlier c.args.before count (omega (arith, c.if-before-ge-MOST_EXTENSIONS.false)) in
    let inner = c.parts_of-parts.ensures (spot_of c.args.reader.now) c.in_ok-extension.ensures.item in
    let twice : stands_among earlier (content_at (spot_of c.parts_of-parts.result)) ≡ true =
    ap (λ identifier. stands_among earlier identifier) (sym c.in_ok-identifier.ensures.item.content) ∙ sym (c.stands_before.ensures earlier lead)
    ∙ c.if-stands_before.true in
    rw (c.in_ok-extension.ensures.ok, room, ← inner, c.in_ok-identifier.ensures.ok, twice)
    (ap (λ (x : Fault). Some x) (sym (c.part_fault-then-stands_before.ensures (spot_of c.args.reader.now) c.in_ok-extension.ensures.item)))

pub returns-in_err-take_flag-clause-fault : goal.returns-in_err-take_flag-clause-fault
unfolding extension_fault identifier_at flag_spot value_spot
returns-in_err-take_flag-clause-fault c = λ earlier lead count.
    let room = has_room earlier c.args.before count (omega (arith, c.if-before-ge-MOST_EXTENSIONS.false)) in
    let inner = c.parts_of-parts.ensures (spot_of c.args.reader.now) c.in_ok-extension.ensures.item in
    let new : stands_among earlier (content_at (spot_of c.parts_of-parts.result)) ≡ false =
    ap (λ identifier. stands_among earlier identifier) (sym c.in_ok-identifier.ensures.item.content) ∙ sym (c.stands_before.ensures earlier lead)
    ∙ c.if-stands_before.false in
    exit _ _ c.in_err-take_flag.field-0.0 c.from_residual-in_err-take_flag.ensures.1 (rw (
      c.in_ok-extension.ensures.ok,
      room,
      ← inner,
      c.in_ok-identifier.ensures.ok,
      new,
      ← c.in_ok-identifier.ensures.next,
      c.in_err-take_flag.ensures.fault,
    ) refl)

pub returns-then-not-is_known-clause-fault : goal.returns-then-not-is_known-clause-fault
unfolding extension_fault identifier_at flag_spot value_spot
returns-then-not-is_known-clause-fault c = λ earlier lead count.
    let room = has_room earlier c.args.before count (omega (arith, c.if-before-ge-MOST_EXTENSIONS.false)) in
    let inner = c.parts_of-parts.ensures (spot_of c.args.reader.now) c.in_ok-extension.ensures.item in
    let new : stands_among earlier (content_at (spot_of c.parts_of-parts.result)) ≡ false =
    ap (λ identifier. stands_among earlier identifier) (sym c.in_ok-identifier.ensures.item.content) ∙ sym (c.stands_before.ensures earlier lead)
    ∙ c.if-stands_before.false in
    let unknown : is_known (content_at (spot_of c.parts_of-parts.result)) ≡ false =
    ap is_known (sym c.in_ok-identifier.ensures.item.content) ∙ sym c.is_known.ensures ∙ c.if-not-is_known.true in
    rw (
      c.in_ok-extension.ensures.ok,
      room,
      ← inner,
      c.in_ok-identifier.ensures.ok,
      new,
      ← c.in_ok-identifier.ensures.next,
      c.in_ok-take_flag.ensures.ok,
      ← c.in_ok-take_flag.ensures.flag,
      c.if-branch.true,
      unknown,
    )
    (ap (λ (x : Fault). Some x) (sym (c.part_fault-then-not-is_known.ensures (spot_of c.args.reader.now) c.in_ok-extension.ensures.item)))

pub returns-in_err-value-clause-fault : goal.returns-in_err-value-clause-fault
unfolding extension_fault identifier_at flag_spot value_spot
returns-in_err-value-clause-fault c = λ earlier lead count.
    let room = has_room earlier c.args.before count (omega (arith, c.if-before-ge-MOST_EXTENSIONS.false)) in
    let inner = c.parts_of-parts.ensures (spot_of c.args.reader.now) c.in_ok-extension.ensures.item in
    let new : stands_among earlier (content_at (spot_of c.parts_of-parts.result)) ≡ false =
    ap (λ identifier. stands_among earlier identifier) (sym c.in_ok-identifier.ensures.item.content) ∙ sym (c.stands_before.ensures earlier lead)
    ∙ c.if-stands_before.false in
    let flag = c.in_ok-take_flag.ensures.flag in
    let known = ap is_known c.in_ok-identifier.ensures.item.content in
    let told : (not (flag_at (spot_of c.take_part-2.new.reader)) || is_known (content_at (spot_of c.parts_of-parts.result))) ≡ true =
    elim c.else-branch.branch [
      | else-branch-via-then-branch+else-not-is_known w ↦ or_right _ _ (sym known ∙ sym w.is_known.ensures ∙ w.if-not-is_known.false)
      | else-branch-via-else-branch w ↦ or_left _ _ (not_from_false _ (sym flag ∙ w.if-branch.false))
    ] in
    exit _ _ c.in_err-value.field-0.0 c.from_residual-in_err-value.ensures.1 (rw (
      c.in_ok-extension.ensures.ok,
      room,
      ← inner,
      c.in_ok-identifier.ensures.ok,
      new,
      ← c.in_ok-identifier.ensures.next,
      c.in_ok-take_flag.ensures.ok,
      told,
      ← c.in_ok-take_flag.ensures.next,
      c.in_err-value.ensures.fault,
    ) refl)

pub returns-in_err-expect_end-clause-fault : goal.returns-in_err-expect_end-clause-fault
unfolding extension_fault identifier_at flag_spot value_spot
returns-in_err-expect_end-clause-fault c = λ earlier lead count.
    let room = has_room earlier c.args.before count (omega (arith, c.if-before-ge-MOST_EXTENSIONS.false)) in
    let inner = c.parts_of-parts.ensures (spot_of c.args.reader.now) c.in_ok-extension.ensures.item in
    let new : stands_among earlier (content_at (spot_of c.parts_of-parts.result)) ≡ false =
    ap (λ identifier. stands_among earlier identifier) (sym c.in_ok-identifier.ensures.item.content) ∙ sym (c.stands_before.ensures earlier lead)
    ∙ c.if-stands_before.false in
    let flag = c.in_ok-take_flag.ensures.flag in
    let known = ap is_known c.in_ok-identifier.ensures.item.content in
    let told : (not (flag_at (spot_of c.take_part-2.new.reader)) || is_known (content_at (spot_of c.parts_of-parts.result))) ≡ true =
    elim c.else-branch.branch [
      | else-branch-via-then-branch+else-not-is_known w ↦ or_right _ _ (sym known ∙ sym w.is_known.ensures ∙ w.if-not-is_known.false)
      | else-branch-via-else-branch w ↦ or_left _ _ (not_from_false _ (sym flag ∙ w.if-branch.false))
    ] in
    exit _ _ c.in_err-expect_end.field-0.0 c.from_residual-in_err-expect_end.ensures.1 (rw (
      c.in_ok-extension.ensures.ok,
      room,
      ← inner,
      c.in_ok-identifier.ensures.ok,
      new,
      ← c.in_ok-identifier.ensures.next,
      c.in_ok-take_flag.ensures.ok,
      told,
      ← c.in_ok-take_flag.ensures.next,
      c.in_ok-value.ensures.ok,
      ← c.in_ok-value.ensures.next,
      c.in_err-expect_end.ensures.fault,
    ) refl)

pub returns-clause-ok : goal.returns-clause-ok
unfolding extension_fault identifier_at flag_spot value_spot
returns-clause-ok c = λ earlier lead count.
    let room = has_room earlier c.args.before count (omega (arith, c.if-before-ge-MOST_EXTENSIONS.false)) in
    let inner = c.parts_of-parts.ensures (spot_of c.args.reader.now) c.in_ok-extension.ensures.item in
    let new : stands_among earlier (content_at (spot_of c.parts_of-parts.result)) ≡ false =
    ap (λ identifier. stands_among earlier identifier) (sym c.in_ok-identifier.ensures.item.content) ∙ sym (c.stands_before.ensures earlier lead)
    ∙ c.if-stands_before.false in
    let flag = c.in_ok-take_flag.ensures.flag in
    let known = ap is_known c.in_ok-identifier.ensures.item.content in
    let told : (not (flag_at (spot_of c.take_part-2.new.reader)) || is_known (content_at (spot_of c.parts_of-parts.result))) ≡ true =
    elim c.else-branch.branch [
      | else-branch-via-then-branch+else-not-is_known w ↦ or_right _ _ (sym known ∙ sym w.is_known.ensures ∙ w.if-not-is_known.false)
      | else-branch-via-else-branch w ↦ or_left _ _ (not_from_false _ (sym flag ∙ w.if-branch.false))
    ] in
    MatchResult-weaker c.read_value.result c.read_value.ensures.ok
    (λ x (e : value_fault c.in_ok-identifier.field-0.content.now (spot_of c.in_ok-value.value) ≡ None). rw (
      c.in_ok-extension.ensures.ok,
      room,
      ← inner,
      c.in_ok-identifier.ensures.ok,
      new,
      ← c.in_ok-identifier.ensures.next,
      c.in_ok-take_flag.ensures.ok,
      told,
      ← c.in_ok-take_flag.ensures.next,
      c.in_ok-value.ensures.ok,
      ← c.in_ok-value.ensures.next,
      c.in_ok-expect_end.ensures.ok,
      ← c.in_ok-value.ensures.inside,
      ← c.in_ok-identifier.ensures.item.content,
      e,
    ) refl) (λ x h. h)

pub returns-clause-fault : goal.returns-clause-fault
unfolding extension_fault identifier_at flag_spot value_spot
returns-clause-fault c = λ earlier lead count.
    let room = has_room earlier c.args.before count (omega (arith, c.if-before-ge-MOST_EXTENSIONS.false)) in
    let inner = c.parts_of-parts.ensures (spot_of c.args.reader.now) c.in_ok-extension.ensures.item in
    let new : stands_among earlier (content_at (spot_of c.parts_of-parts.result)) ≡ false =
    ap (λ identifier. stands_among earlier identifier) (sym c.in_ok-identifier.ensures.item.content) ∙ sym (c.stands_before.ensures earlier lead)
    ∙ c.if-stands_before.false in
    let flag = c.in_ok-take_flag.ensures.flag in
    let known = ap is_known c.in_ok-identifier.ensures.item.content in
    let told : (not (flag_at (spot_of c.take_part-2.new.reader)) || is_known (content_at (spot_of c.parts_of-parts.result))) ≡ true =
    elim c.else-branch.branch [
      | else-branch-via-then-branch+else-not-is_known w ↦ or_right _ _ (sym known ∙ sym w.is_known.ensures ∙ w.if-not-is_known.false)
      | else-branch-via-else-branch w ↦ or_left _ _ (not_from_false _ (sym flag ∙ w.if-branch.false))
    ] in
    MatchResult-weaker c.read_value.result c.read_value.ensures.fault (λ x h. h)
    (λ x e. rw (
      c.in_ok-extension.ensures.ok,
      room,
      ← inner,
      c.in_ok-identifier.ensures.ok,
      new,
      ← c.in_ok-identifier.ensures.next,
      c.in_ok-take_flag.ensures.ok,
      told,
      ← c.in_ok-take_flag.ensures.next,
      c.in_ok-value.ensures.ok,
      ← c.in_ok-value.ensures.next,
      c.in_ok-expect_end.ensures.ok,
      ← c.in_ok-value.ensures.inside,
      ← c.in_ok-identifier.ensures.item.content,
      e,
    ) refl)

pub returns-clause-adds : goal.returns-clause-adds
unfolding identifier_at flag_spot value_spot
returns-clause-adds c =
    let inner = c.parts_of-parts.ensures (spot_of c.args.reader.now) c.in_ok-extension.ensures.item in
    rw (
      ← inner,
      ← c.in_ok-identifier.ensures.next,
      ← c.in_ok-take_flag.ensures.next,
      ← c.in_ok-value.ensures.inside,
      ← c.in_ok-identifier.ensures.item.content,
    ) c.read_value.ensures.adds

pub returns-clause-shorter : goal.returns-clause-shorter
returns-clause-shorter c =
    let less = shorter_after kinds.Der sequence_tag c.args.reader.now c.take_part.new.reader c.in_ok-extension.ensures.ok c.in_ok-extension.ensures.next in
    MatchResult-weaker c.read_value.result c.read_value.ensures.ok (λ x h. less) (λ x h. h)

pub returns-clause-few : goal.returns-clause-few
returns-clause-few c =
    MatchResult-weaker c.read_value.result c.read_value.ensures.ok (λ x h. omega (arith, c.if-before-ge-MOST_EXTENSIONS.false)) (λ x h. h)
