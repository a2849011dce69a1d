use Rattle.std.specs.Prelude.{bytes_eq}
use Rattle.std.proofs.Common.{◌≡◌, ℕ, true, false, List, [], ◌∷◌, Some, refl, sym, ap, ◌∙◌}
use Rattle.std.proofs.lemmas.Bool.{false≢true, not-false, not-true}
use Rattle.sz_der.specs.Integer.{is_integer}
use Rattle.sz_der.specs.Spots.{content_at, is_next, spot_of}
use Rattle.sz_der.specs.Tags.{integer_tag}
use Rattle.sz_der.proofs.Optional.{after_next, after_other, next_tag}
use Rattle.sz_der.proofs.Steps.{exit, fails, passes}
use Rattle.sz_der.proofs.IntegerTest.{integer_test, IsInteger_from_test}
use Rattle.sz_x509.specs.CertFault.{Fault}
use Rattle.sz_x509.specs.CrlFault.{list_algorithm_spot, list_version_fault}
use Rattle.sz_x509.proofs.Adding.{compared}
use Rattle.sz_x509.proofs.tbs_list.skip_version.Goals as goal

pub returns-then-not-is_next-clause-ok : goal.returns-then-not-is_next-clause-ok
unfolding list_version_fault
returns-then-not-is_next-clause-ok c =
    rw (sym c.is_next.ensures ∙ c.if-not-is_next.true) refl

pub returns-then-not-is_next-clause-next : goal.returns-then-not-is_next-clause-next
unfolding list_algorithm_spot
returns-then-not-is_next-clause-next c =
    sym (after_other integer_tag (spot_of c.args.reader.now) (sym c.is_next.ensures ∙ c.if-not-is_next.true))

pub returns-in_err-version-clause-fault : goal.returns-in_err-version-clause-fault
unfolding list_version_fault
returns-in_err-version-clause-fault c =
    exit _ _ c.in_err-version.field-0.0 c.from_residual.ensures.1 (rw (sym c.is_next.ensures ∙ c.if-not-is_next.false, c.in_err-version.ensures.fault) refl)

pub returns-in_default-clause-fault : goal.returns-in_default-clause-fault
unfolding list_version_fault
returns-in_default-clause-fault c =
    let version = c.in_ok-version.version in
    let next : is_next integer_tag (spot_of c.args.reader.now) ≡ true = sym c.is_next.ensures ∙ c.if-not-is_next.false in
    let tag = c.in_ok-version.ensures.item.tag ∙ next_tag integer_tag (spot_of c.args.reader.now) next in
    let test = fails is_integer (spot_of c.args.reader.now) version c.in_ok-version.ensures.item
    (λ e. false≢true (c.in_default.ensures.exact.1 (tag, IsInteger_from_test version.content.now e))) in
    rw (sym c.is_next.ensures ∙ c.if-not-is_next.false, c.in_ok-version.ensures.ok, test)
    (ap (λ (x : Fault). Some x) (sym (c.part_fault.ensures (spot_of c.args.reader.now) c.in_ok-version.ensures.item)))

pub returns-then-ne-clause-fault : goal.returns-then-ne-clause-fault
unfolding list_version_fault
returns-then-ne-clause-fault c =
    let minimal = passes is_integer (spot_of c.args.reader.now) c.in_ok-version.version c.in_ok-version.ensures.item
    (integer_test c.in_ok-version.version.content.now (c.in-Ok.ensures.exact.0 refl).1) in
    let is : bytes_eq (content_at (spot_of c.args.reader.now)) (1 ∷ []) ≡ false =
    ap (λ (x : List ℕ). bytes_eq x (1 ∷ [])) (sym c.in_ok-version.ensures.item.content ∙ sym c.in-Ok.ensures.value)
    ∙ compared c.in-Ok.octets.now (1 ∷ []) c.as_slice.result.now c.as_slice.ensures ∙ not-true _ (sym c.if-ne.ensures) in
    rw (sym c.is_next.ensures ∙ c.if-not-is_next.false, c.in_ok-version.ensures.ok, minimal, is)
    (ap (λ (x : Fault). Some x) (sym (c.part_fault-then-ne.ensures (spot_of c.args.reader.now) c.in_ok-version.ensures.item)))

pub returns-clause-ok : goal.returns-clause-ok
unfolding list_version_fault
returns-clause-ok c =
    let minimal = passes is_integer (spot_of c.args.reader.now) c.in_ok-version.version c.in_ok-version.ensures.item
    (integer_test c.in_ok-version.version.content.now (c.in-Ok.ensures.exact.0 refl).1) in
    let is : bytes_eq (content_at (spot_of c.args.reader.now)) (1 ∷ []) ≡ true =
    ap (λ (x : List ℕ). bytes_eq x (1 ∷ [])) (sym c.in_ok-version.ensures.item.content ∙ sym c.in-Ok.ensures.value)
    ∙ compared c.in-Ok.octets.now (1 ∷ []) c.as_slice.result.now c.as_slice.ensures ∙ not-false _ (sym c.if-ne.ensures) in
    rw (sym c.is_next.ensures ∙ c.if-not-is_next.false, c.in_ok-version.ensures.ok, minimal, is) refl

pub returns-clause-next : goal.returns-clause-next
unfolding list_algorithm_spot
returns-clause-next c =
    c.in_ok-version.ensures.next ∙ sym (after_next integer_tag (spot_of c.args.reader.now) (sym c.is_next.ensures ∙ c.if-not-is_next.false))
