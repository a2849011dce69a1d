use Rattle.std.specs.Prelude.{bytes_eq}
use Rattle.std.proofs.Common.{◌≡◌, ℕ, true, false, List, [], ◌∷◌, Some, None, refl, sym, ap, ◌∙◌}
use Rattle.std.proofs.lemmas.Bool.{false≢true, not-false, not-true}
use Rattle.std.proofs.lemmas.Result.{MatchResult-weaker}
use Rattle.sz_der.specs.Integer.{is_integer}
use Rattle.sz_der.specs.Spots.{content_at, spot_of}
use Rattle.sz_der.specs.Tags.{integer_tag}
use Rattle.sz_der.proofs.Steps.{exit, fails, part_tag, passes}
use Rattle.sz_der.proofs.IntegerTest.{integer_test, IsInteger_from_test}
use Rattle.sz_x509.specs.CertFault.{end, Fault, version_fault}
use Rattle.sz_x509.specs.declared.fault.CertKind.TheVariants as kinds
use Rattle.sz_x509.proofs.Adding.{compared}
use Rattle.sz_x509.proofs.tbs.take_version.Goals as goal

pub returns-in_err-parts-clause-fault : goal.returns-in_err-parts-clause-fault
unfolding version_fault
returns-in_err-parts-clause-fault c =
    exit _ _ c.in_err-parts.field-0.0 c.from_residual.ensures.1 (rw c.in_err-parts.ensures.fault refl)

pub returns-in_err-version-clause-fault : goal.returns-in_err-version-clause-fault
unfolding version_fault
returns-in_err-version-clause-fault c =
    exit _ _ c.in_err-version.field-0.0 c.from_residual-in_err-version.ensures.1 (rw (
      c.in_ok-parts.ensures.ok,
      ← c.in_ok-parts.ensures.inside,
      c.in_err-version.ensures.fault,
    ) refl)

pub returns-in_default-clause-fault : goal.returns-in_default-clause-fault
unfolding version_fault
returns-in_default-clause-fault c =
    let version = c.in_ok-version.version in
    let tag = part_tag _ _ integer_tag (spot_of c.in_ok-parts.parts) version c.in_ok-version.ensures.ok c.in_ok-version.ensures.item in
    let test = fails is_integer (spot_of c.in_ok-parts.parts) version c.in_ok-version.ensures.item
    (λ e. false≢true (c.in_default.ensures.exact.1 (tag, IsInteger_from_test version.content.now e))) in
    rw (c.in_ok-parts.ensures.ok, ← c.in_ok-parts.ensures.inside, c.in_ok-version.ensures.ok, test)
    (ap (λ (x : Fault). Some x) (sym (c.part_fault.ensures (spot_of c.in_ok-parts.parts) c.in_ok-version.ensures.item)))

pub returns-then-ne-clause-fault : goal.returns-then-ne-clause-fault
unfolding version_fault
returns-then-ne-clause-fault c =
    let minimal = passes is_integer (spot_of c.in_ok-parts.parts) c.in_ok-version.version c.in_ok-version.ensures.item
    (integer_test c.in_ok-version.version.content.now (c.in-Ok.ensures.exact.0 refl).1) in
    let is : bytes_eq (content_at (spot_of c.in_ok-parts.parts)) (2 ∷ []) ≡ false =
    ap (λ (x : List ℕ). bytes_eq x (2 ∷ [])) (sym c.in_ok-version.ensures.item.content ∙ sym c.in-Ok.ensures.value)
    ∙ compared c.in-Ok.octets.now (2 ∷ []) c.as_slice.result.now c.as_slice.ensures ∙ not-true _ (sym c.if-ne.ensures) in
    rw (c.in_ok-parts.ensures.ok, ← c.in_ok-parts.ensures.inside, c.in_ok-version.ensures.ok, minimal, is)
    (ap (λ (x : Fault). Some x) (sym (c.part_fault-then-ne.ensures (spot_of c.in_ok-parts.parts) c.in_ok-version.ensures.item)))

pub returns-clause-ok : goal.returns-clause-ok
unfolding version_fault
returns-clause-ok c =
    let minimal = passes is_integer (spot_of c.in_ok-parts.parts) c.in_ok-version.version c.in_ok-version.ensures.item
    (integer_test c.in_ok-version.version.content.now (c.in-Ok.ensures.exact.0 refl).1) in
    let is : bytes_eq (content_at (spot_of c.in_ok-parts.parts)) (2 ∷ []) ≡ true =
    ap (λ (x : List ℕ). bytes_eq x (2 ∷ [])) (sym c.in_ok-version.ensures.item.content ∙ sym c.in-Ok.ensures.value)
    ∙ compared c.in-Ok.octets.now (2 ∷ []) c.as_slice.result.now c.as_slice.ensures ∙ not-false _ (sym c.if-ne.ensures) in
    MatchResult-weaker c.expect_end.result c.expect_end.ensures.ok
    (λ x (e : end kinds.Version (spot_of c.take_part.new.reader) ≡ None). rw (
      c.in_ok-parts.ensures.ok,
      ← c.in_ok-parts.ensures.inside,
      c.in_ok-version.ensures.ok,
      minimal,
      is,
      ← c.in_ok-version.ensures.next,
      e,
    ) refl) (λ x h. h)

pub returns-clause-fault : goal.returns-clause-fault
unfolding version_fault
returns-clause-fault c =
    let minimal = passes is_integer (spot_of c.in_ok-parts.parts) c.in_ok-version.version c.in_ok-version.ensures.item
    (integer_test c.in_ok-version.version.content.now (c.in-Ok.ensures.exact.0 refl).1) in
    let is : bytes_eq (content_at (spot_of c.in_ok-parts.parts)) (2 ∷ []) ≡ true =
    ap (λ (x : List ℕ). bytes_eq x (2 ∷ [])) (sym c.in_ok-version.ensures.item.content ∙ sym c.in-Ok.ensures.value)
    ∙ compared c.in-Ok.octets.now (2 ∷ []) c.as_slice.result.now c.as_slice.ensures ∙ not-false _ (sym c.if-ne.ensures) in
    MatchResult-weaker c.expect_end.result c.expect_end.ensures.fault (λ x h. h)
    (λ x e. rw (
      c.in_ok-parts.ensures.ok,
      ← c.in_ok-parts.ensures.inside,
      c.in_ok-version.ensures.ok,
      minimal,
      is,
      ← c.in_ok-version.ensures.next,
      e,
    ) refl)
