-- A certificate as a whole: its bytes have no fault exactly where they are spelled as the relation says.
use Rattle.std.specs.List.{AllByRecursion}
use Rattle.std.proofs.Common.{◌≡◌, ℕ, inl, inr, true, false, List, [], ◌∷◌, ◌++◌, length, None, refl, sym, subst, ◌∙◌, arith}
use Rattle.std.proofs.lemmas.Bool.{cases_Bool}
use Rattle.sz_der.specs.Der.{AreOctets, Der}
use Rattle.sz_der.specs.Spots.{after, after_optional, content_at, front, inside, is_next, Spot, spots_from, whole_at}
use Rattle.sz_der.specs.Tags.{sequence_tag}
use Rattle.sz_der.proofs.Spots.{end_from_nothing, Found, found_part, inside-left, no_item-stands, no_part-stands, nothing_left, parts_of_none, stands}
use Rattle.sz_der.proofs.Joined.{alone, and_then, Der_with, last}
use Rattle.sz_der.proofs.Optional.{absent, after_next, after_other, BeginsWithout, found_next, next_stands, Optional, present, without_item, without_nothing}
use Rattle.sz_x509.specs.Certificate.{Certificate, CertOf, IsTbs, joined, TbsParts}
use Rattle.sz_x509.specs.CertFault.{cert_fault, extensions_fault, extensions_spot, issuer_id_spot, issuer_spot, key_spot, serial_spot, stands_among, subject_id_spot, subject_spot, tbs_parts_fault, validity_spot}
use Rattle.sz_x509.specs.CertPlaces.{extension_spots, FieldsAt, RestrictedAt, TbsAt}
use Rattle.sz_x509.specs.Extensions.{AreExtensions, Extension, HasExtensions, Restrict, Restrictions}
use Rattle.sz_x509.specs.declared.fault.CertKind.TheVariants as kinds
use Rattle.sz_x509.specs.Tags.{extensions_tag, issuer_unique_id_tag, subject_unique_id_tag}
use Rattle.sz_x509.proofs.Spelled.{algorithm_clear, IsAlgorithm_from_none, IsKey_from_none, IsSerial_from_none, IsSignature_from_none, IsValidity_from_none, IsVersion3_from_none, key_clear, serial_clear, signature_clear, validity_clear, version_clear}
use Rattle.sz_x509.proofs.Chains.{IsUniqueId_from_none, unique_id_clear, without_unique_id}
use Rattle.sz_x509.proofs.ExtensionLists.{are_distinct, are_extensions, are_few, clear_each, extensions_at}
use Rattle.sz_x509.proofs.Restricted.{each_value_is_clear, places_from_restrict, restrict_from_places}

-- ---- the field of extensions

pub spots_next : (field : Spot) → is_next extensions_tag field ≡ true → extension_spots field ≡ spots_from (inside (inside field))
unfolding extension_spots
spots_next field next = rw next refl

pub spots_other : (field : Spot) → is_next extensions_tag field ≡ false → extension_spots field ≡ []
unfolding extension_spots
spots_other field other = rw other refl

HasExtensions_from_none : (field : Spot) (restrictions : Restrictions) → AreOctets field.left → extensions_fault field ≡ None →
    RestrictedAt (extension_spots field) restrictions → Optional field extensions_tag (HasExtensions restrictions)
unfolding extensions_fault
HasExtensions_from_none field restrictions fits n at =
    elim (cases_Bool (is_next extensions_tag field)) [
      | inl next ↦
          let a = parts_of_none _ _ (rw next at n) in
          let b = parts_of_none _ _ a.1 in
          let c = parts_of_none _ _ b.1 in
          let d = parts_of_none _ _ c.1 in
          let here = found_next _ extensions_tag field fits next a.0 in
          let sequence = found_part _ _ sequence_tag (inside field) here.inside b.0 in
          let list = inside (inside field) in
          let are = are_extensions (length list.left) [] list (omega arith) sequence.inside c.0 in
          let only = last (whole_at (inside field)) sequence.joined (nothing_left _ _ (after (inside field)) d.0) in
          let restrict = restrict_from_places (spots_from list) restrictions are.1 (are_few (spots_from list) c.0) (are_distinct [] (spots_from list) c.0)
          (rw (spots_next field next) at at) in
          present field extensions_tag (HasExtensions restrictions) here next (record {
            extensions = extensions_at (spots_from list);
            in_field = inr (
              content_at (inside field),
              whole_at (inside field),
              subst (λ (x : List ℕ). AreExtensions (extensions_at (spots_from list)) x) (inside-left (inside field)) are.0,
              sequence.is_item,
              Der_with (sym (inside-left field) ∙ only) here.is_item,
            );
            restrict = restrict;
          })
      | inr other ↦ absent field extensions_tag (HasExtensions restrictions) fits other (record {
        extensions = [];
        in_field = inl (refl, refl);
        restrict = restrict_from_places [] restrictions tt (omega arith) tt (rw (spots_other field other) at at);
      })
    ]

none_is_new : (extensions : List Extension) → AllByRecursion (λ extension. stands_among [] extension.identifier ≡ false) extensions
unfolding stands_among
none_is_new [] = tt
none_is_new (extension ∷ extensions) = (refl, none_is_new extensions)

extensions_clear : (field : Spot) (restrictions : Restrictions) (piece : List ℕ) → HasExtensions restrictions piece → field.left ≡ piece →
    (extensions_fault field ≡ None) × RestrictedAt (extension_spots field) restrictions × ((after_optional extensions_tag field).left ≡ [])
unfolding extensions_fault
extensions_clear field restrictions piece is left =
    elim is.in_field [
      | inl none ↦
          let other = without_nothing extensions_tag field (left ∙ none.0) in
          let restrict : Restrict (extensions_at []) restrictions = rw none.1 at is.restrict in (
            rw other refl,
            rw (spots_other field other) (places_from_restrict [] restrictions restrict),
            rw (after_other extensions_tag field other) (left ∙ none.0),
          )
      | inr some ↦
          let here = stands field extensions_tag some.1 piece [] some.4 (alone piece left) in
          let next = next_stands field extensions_tag some.1 piece [] here in
          let sequence = stands (inside field) sequence_tag some.0 some.1 [] some.3 (alone some.1 here.inside_is) in
          let list = inside (inside field) in
          let each = clear_each (length list.left) [] list is.extensions (omega arith) (rw sequence.inside_is some.2)
          (omega (arith, is.restrict.few)) (none_is_new is.extensions) is.restrict.distinct is.restrict.understood
          (each_value_is_clear is.extensions restrictions is.restrict) in
          let restrict : Restrict (extensions_at (spots_from list)) restrictions = rw each.1 is.restrict in (
            rw (
              next,
              no_item-stands kinds.Der here,
              no_part-stands kinds.Der kinds.Der (inside field) sequence_tag some.0 some.1 [] sequence,
              each.0,
              end_from_nothing kinds.Der kinds.Der (after (inside field)) sequence.after_is,
            ) refl,
            rw (spots_next field next) (places_from_restrict (spots_from list) restrictions restrict),
            rw (after_next extensions_tag field next) here.after_is,
          )
    ]

without_extensions : (tag : ℕ) (restrictions : Restrictions) (piece : List ℕ) → HasExtensions restrictions piece → (extensions_tag ≡ tag → ⊥) →
    BeginsWithout tag piece
without_extensions tag restrictions piece is differ = λ spot left.
    elim is.in_field [
      | inl none ↦ without_nothing tag spot (left ∙ none.0)
      | inr some ↦ without_item tag extensions_tag some.1 piece [] some.4 differ spot (alone piece left)
    ]

-- ---- TBSCertificate

pub IsTbs_from_none : (spot : Spot) (fields : Certificate) → Found spot sequence_tag → tbs_parts_fault (inside spot) ≡ None →
    TbsAt (inside spot) fields → IsTbs fields (whole_at spot)
unfolding tbs_parts_fault
IsTbs_from_none spot fields found n at =
    let first = inside spot in
    let a = parts_of_none _ _ n in
    let b = parts_of_none _ _ a.1 in
    let c = parts_of_none _ _ b.1 in
    let d = parts_of_none _ _ c.1 in
    let e = parts_of_none _ _ d.1 in
    let f = parts_of_none _ _ e.1 in
    let g = parts_of_none _ _ f.1 in
    let h = parts_of_none _ _ g.1 in
    let i = parts_of_none _ _ h.1 in
    let j = parts_of_none _ _ i.1 in
    let k = parts_of_none _ _ j.1 in
    let version = IsVersion3_from_none first found.inside a.0 in
    let serial = IsSerial_from_none (serial_spot first) version.1.after b.0 in
    let algorithm = IsAlgorithm_from_none (after (serial_spot first)) serial.1.after c.0 in
    let issuer = found_part _ _ sequence_tag (issuer_spot first) algorithm.1.after d.0 in
    let validity = IsValidity_from_none (validity_spot first) issuer.after e.0 in
    let subject = found_part _ _ sequence_tag (subject_spot first) validity.1.after f.0 in
    let key = IsKey_from_none (key_spot first) subject.after g.0 in
    let issuer_id = IsUniqueId_from_none issuer_unique_id_tag (issuer_id_spot first) key.1.after h.0 in
    let subject_id = IsUniqueId_from_none subject_unique_id_tag (subject_id_spot first) issuer_id.after i.0 in
    let extensions = HasExtensions_from_none (extensions_spot first) fields.restrictions subject_id.after j.0 at.restrictions in
    let only = last extensions.piece extensions.joined (nothing_left _ _ (after_optional extensions_tag (extensions_spot first)) k.0) in
    let tail = and_then (whole_at (key_spot first)) key.1.joined
    (and_then issuer_id.piece issuer_id.joined (and_then subject_id.piece subject_id.joined only)) in
    let names = and_then (whole_at (issuer_spot first)) issuer.joined (and_then (whole_at (validity_spot first)) validity.1.joined
    (and_then (whole_at (subject_spot first)) subject.joined tail)) in
    let all = and_then (whole_at first) version.1.joined (and_then (whole_at (serial_spot first)) serial.1.joined
    (and_then (whole_at (after (serial_spot first))) algorithm.1.joined names)) in
    let parts : TbsParts = record {
      version = whole_at first;
      serial = whole_at (serial_spot first);
      algorithm = whole_at (after (serial_spot first));
      validity = whole_at (validity_spot first);
      key = whole_at (key_spot first);
      issuer_id = issuer_id.piece;
      subject_id = subject_id.piece;
      extensions = extensions.piece;
    } in
    let joined_is : content_at spot ≡ joined parts fields = rw (at.issuer, at.subject) (sym (inside-left spot) ∙ all) in
    record {
      parts = parts;
      is_version = version.0;
      is_serial = rw at.serial serial.0;
      is_algorithm = algorithm.0;
      is_issuer = (content_at (issuer_spot first), rw at.issuer issuer.is_item);
      is_validity = rw (at.not_before, at.not_after) validity.0;
      is_subject = (content_at (subject_spot first), rw at.subject subject.is_item);
      is_key = rw at.key key.0;
      is_issuer_id = issuer_id.is_piece;
      is_subject_id = subject_id.is_piece;
      are_extensions = extensions.is_piece;
      is_sequence = Der_with joined_is found.is_item;
    }

-- what is left before each part of TBSCertificate
tbs_clear : (first : Spot) (fields : Certificate) (bytes : List ℕ) (is : IsTbs fields bytes) → first.left ≡ joined is.parts fields →
    (tbs_parts_fault first ≡ None) × TbsAt first fields
unfolding tbs_parts_fault
tbs_clear first fields bytes is left =
    let version = version_clear first is.parts.version _ is.is_version left in
    let serial = serial_clear (serial_spot first) fields.serial is.parts.serial _ is.is_serial version.1 in
    let algorithm = algorithm_clear (after (serial_spot first)) is.parts.algorithm _ is.is_algorithm serial.1.after_is in
    let issuer = stands (issuer_spot first) sequence_tag is.is_issuer.0 fields.issuer _ is.is_issuer.1 algorithm.1 in
    let validity = validity_clear (validity_spot first) fields.not_before fields.not_after is.parts.validity _ is.is_validity issuer.after_is in
    let subject = stands (subject_spot first) sequence_tag is.is_subject.0 fields.subject _ is.is_subject.1 validity.3 in
    let key = key_clear (key_spot first) fields.key is.parts.key _ is.is_key subject.after_is in
    let after_ids = without_extensions subject_unique_id_tag fields.restrictions is.parts.extensions is.are_extensions (λ e. absurd (omega arith)) in
    let without = without_extensions issuer_unique_id_tag fields.restrictions is.parts.extensions is.are_extensions (λ e. absurd (omega arith)) in
    let no_issuer_id = without_unique_id issuer_unique_id_tag subject_unique_id_tag is.parts.subject_id is.parts.extensions is.is_subject_id
    (λ e. absurd (omega arith)) without in
    let issuer_id = unique_id_clear issuer_unique_id_tag (issuer_id_spot first) is.parts.issuer_id (is.parts.subject_id ++ is.parts.extensions)
    is.is_issuer_id no_issuer_id key.2 in
    let subject_id = unique_id_clear subject_unique_id_tag (subject_id_spot first) is.parts.subject_id is.parts.extensions is.is_subject_id after_ids
    issuer_id.1 in
    let extensions = extensions_clear (extensions_spot first) fields.restrictions is.parts.extensions is.are_extensions subject_id.1 in (
      rw (
        version.0,
        serial.0,
        algorithm.0,
        no_part-stands kinds.Der kinds.Der (issuer_spot first) sequence_tag _ _ _ issuer,
        validity.0,
        no_part-stands kinds.Der kinds.Der (subject_spot first) sequence_tag _ _ _ subject,
        key.0,
        issuer_id.0,
        subject_id.0,
        extensions.0,
        end_from_nothing kinds.Der kinds.Der (after_optional extensions_tag (extensions_spot first)) extensions.2,
      ) refl,
      record {
        serial = sym serial.1.content_is;
        issuer = sym issuer.whole_is;
        not_before = sym validity.1;
        not_after = sym validity.2;
        subject = sym subject.whole_is;
        key = sym key.1;
        restrictions = extensions.1;
      },
    )

-- ---- Certificate

pub front-left : (bytes : List ℕ) → (front bytes).left ≡ bytes
unfolding front
front-left bytes = refl

pub CertOf_from_none : (bytes : List ℕ) (fields : Certificate) → AreOctets bytes → cert_fault bytes ≡ None → FieldsAt bytes fields → CertOf bytes fields
unfolding cert_fault
CertOf_from_none bytes fields fits n at =
    let a = parts_of_none _ _ n in
    let b = parts_of_none _ _ a.1 in
    let c = parts_of_none _ _ b.1 in
    let d = parts_of_none _ _ c.1 in
    let e = parts_of_none _ _ d.1 in
    let f = parts_of_none _ _ e.1 in
    let g = parts_of_none _ _ f.1 in
    let certificate = found_part _ _ sequence_tag (front bytes) (rw (front-left bytes) fits) a.0 in
    let tbs = found_part _ _ sequence_tag (inside (front bytes)) certificate.inside b.0 in
    let algorithm = IsAlgorithm_from_none (after (inside (front bytes))) tbs.after d.0 in
    let signature = IsSignature_from_none kinds.Der (after (after (inside (front bytes)))) algorithm.1.after e.0 in
    let only = last (whole_at (after (after (inside (front bytes))))) signature.1.joined
    (nothing_left _ _ (after (after (after (inside (front bytes))))) f.0) in
    let parts = and_then (whole_at (inside (front bytes))) tbs.joined (and_then (whole_at (after (inside (front bytes)))) algorithm.1.joined only) in
    let whole = sym (front-left bytes) ∙ last (whole_at (front bytes)) certificate.joined (nothing_left _ _ (after (front bytes)) g.0) in
    let item = Der_with (sym (inside-left (front bytes)) ∙ parts) certificate.is_item in
    record {
      algorithm = whole_at (after (inside (front bytes)));
      bits = whole_at (after (after (inside (front bytes))));
      whole = at.whole;
      is_tbs = subst (λ (x : List ℕ). IsTbs fields x) (sym at.tbs) (IsTbs_from_none (inside (front bytes)) fields tbs c.0 at.parts);
      is_algorithm = algorithm.0;
      is_signature = rw at.signature signature.0;
      is_sequence = subst (λ (x : List ℕ). Der sequence_tag (fields.tbs
          ++ (whole_at (after (inside (front bytes))) ++ whole_at (after (after (inside (front bytes)))))) x) (sym whole) (rw at.tbs item);
    }

pub cert_clear : (bytes : List ℕ) (fields : Certificate) → CertOf bytes fields → (cert_fault bytes ≡ None) × FieldsAt bytes fields
unfolding cert_fault
cert_clear bytes fields is =
    let certificate = stands (front bytes) sequence_tag (fields.tbs ++ (is.algorithm ++ is.bits)) bytes [] is.is_sequence (alone bytes (front-left bytes)) in
    let tbs = stands (inside (front bytes)) sequence_tag (joined is.is_tbs.parts fields) fields.tbs (is.algorithm ++ is.bits) is.is_tbs.is_sequence
    certificate.inside_is in
    let parts = tbs_clear (inside (inside (front bytes))) fields fields.tbs is.is_tbs tbs.inside_is in
    let algorithm = algorithm_clear (after (inside (front bytes))) is.algorithm is.bits is.is_algorithm tbs.after_is in
    let signature = signature_clear kinds.Der (after (after (inside (front bytes)))) fields.signature is.bits [] is.is_signature
    (alone is.bits algorithm.1) in (
      rw (
        no_part-stands kinds.Der kinds.Der (front bytes) sequence_tag (fields.tbs ++ (is.algorithm ++ is.bits)) bytes [] certificate,
        no_part-stands kinds.Der kinds.Der (inside (front bytes)) sequence_tag (joined is.is_tbs.parts fields) fields.tbs (is.algorithm ++ is.bits) tbs,
        parts.0,
        algorithm.0,
        signature.0,
        end_from_nothing kinds.Der kinds.Der (after (after (after (inside (front bytes))))) signature.2.after_is,
        end_from_nothing kinds.Der kinds.Der (after (front bytes)) certificate.after_is,
      ) refl,
      record {
        whole = is.whole;
        tbs = sym tbs.whole_is;
        parts = parts.1;
        signature = sym signature.1;
      },
    )
