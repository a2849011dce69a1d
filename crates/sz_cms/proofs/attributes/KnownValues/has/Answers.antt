use Rattle.std.proofs.Common.{refl, sym, ap, ◌∙◌, List, ℕ}
use Rattle.sz_cms.specs.Identifiers.{content_type_oid, message_digest_oid}
use Rattle.sz_cms.proofs.Readings.{has_known, has_other, some_copied}
use Rattle.sz_cms.proofs.attributes.KnownValues.has.Goals as goal
use Rattle.std.specs.Prelude.{bytes_eq, is_some}

pub returns-then-eq : goal.returns-then-eq
returns-then-eq c =
    let is_type = ap (λ (x : List ℕ). bytes_eq c.args.identifier.now x) (sym c.as_slice.ensures) ∙ sym c.if-eq.ensures in
    λ earlier known. c.is_some.ensures ∙ some_copied c.args.self.now.content_type ∙ ap is_some known.content_type
    ∙ has_known content_type_oid earlier c.args.identifier.now refl is_type

pub returns-then-eq-2 : goal.returns-then-eq-2
returns-then-eq-2 c =
    let is_digest = ap (λ (x : List ℕ). bytes_eq c.args.identifier.now x) (sym c.as_slice-2.ensures) ∙ sym c.if-eq-2.ensures in
    λ earlier known. c.is_some-then-eq-2.ensures ∙ some_copied c.args.self.now.digest ∙ ap is_some known.digest
    ∙ has_known message_digest_oid earlier c.args.identifier.now refl is_digest

pub returns : goal.returns
returns c =
    let is_type = ap (λ (x : List ℕ). bytes_eq c.args.identifier.now x) (sym c.as_slice.ensures) ∙ sym c.if-eq.ensures in
    let is_digest = ap (λ (x : List ℕ). bytes_eq c.args.identifier.now x) (sym c.as_slice-2.ensures) ∙ sym c.if-eq-2.ensures in
    λ earlier known. has_other earlier c.args.identifier.now is_type is_digest
