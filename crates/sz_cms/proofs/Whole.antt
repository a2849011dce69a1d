-- A message as a whole: its bytes have no fault exactly where they are spelled as the relation says.
use Rattle.std.specs.Prelude.{bytes_eq}
use Rattle.std.specs.List.{concat}
use Rattle.std.proofs.Common.{◌≡◌, ◌≢◌, ℕ, inl, inr, false, List, [], ◌∷◌, ◌++◌, None, refl, sym, ap, subst, ◌∙◌, arith}
use Rattle.std.proofs.lemmas.Bool.{both_ways, cases_Bool}
use Rattle.sz_der.specs.Der.{AreOctets, Der}
use Rattle.sz_der.specs.Spots.{after, content_at, front, inside, Spot, whole_at}
use Rattle.sz_der.specs.Tags.{context_constructed, object_identifier_tag, sequence_tag, set_tag}
use Rattle.sz_der.proofs.Octets.{bytes_same, same_bytes}
use Rattle.sz_der.proofs.Joined.{alone, and_then, Der_with, last}
use Rattle.sz_der.proofs.Optional.{BeginsWithout, without_item}
use Rattle.sz_der.proofs.Spots.{end_from_nothing, Found, found_part, inside-left, no_part-stands, nothing_left, parts_of_none, stands}
use Rattle.sz_cms.specs.Message.{Holds, Info, InfoOf, IsChoicesField, IsSigned, Plain, Signed, SignedData, signed_parts, SignedParts}
use Rattle.sz_cms.specs.MessageFault.{algorithms_spot, certs_spot, content_spot, crls_spot, crls_tag, info_fault, inner_fault, octets_fault, signed_fault, signed_parts_fault, signers_spot, type_at}
use Rattle.sz_cms.specs.Places.{choices_at, content_field_at, info_at, inner_at, signed_from, signers_at}
use Rattle.sz_cms.specs.Identifiers.{enveloped_data_oid, signed_data_oid}
use Rattle.sz_cms.specs.Limits.{most_certs, most_crls}
use Rattle.sz_cms.specs.declared.fault.InfoKind.TheVariants as kinds
use Rattle.sz_cms.proofs.Readings.{same_signed}
use Rattle.sz_cms.proofs.SignedParts.{algorithms_clear, algorithms_from_none, choices_clear, choices_from_none, content_clear, content_from_none, octets_clear, octets_from_none}
use Rattle.sz_cms.proofs.SignerLaws.{integer_clear, integer_from_none}
use Rattle.sz_cms.proofs.SignerWhole.{signers_clear, signers_from_none}

-- ---- SignedData

signed_from_none : (spot : Spot) → Found spot sequence_tag → signed_parts_fault (inside spot) ≡ None → IsSigned (signed_from (inside spot)) (whole_at spot)
unfolding signed_parts_fault signed_from
signed_from_none spot here n =
    let first = inside spot in
    let a = parts_of_none _ _ n in
    let b = parts_of_none _ _ a.1 in
    let c = parts_of_none _ _ b.1 in
    let d = parts_of_none _ _ c.1 in
    let e = parts_of_none _ _ d.1 in
    let f = parts_of_none _ _ e.1 in
    let g = parts_of_none _ _ f.1 in
    let version = integer_from_none first here.inside a.0 in
    let algorithms = algorithms_from_none (algorithms_spot first) version.1.after b.0 in
    let content = content_from_none (content_spot first) algorithms.1.after c.0 in
    let certs = choices_from_none most_certs context_constructed (certs_spot first) content.1.after d.0 in
    let crls = choices_from_none most_crls crls_tag (crls_spot first) certs.after e.0 in
    let signers = signers_from_none (signers_spot first) crls.after f.0 in
    let only = and_then (whole_at (signers_spot first)) signers.1.joined (nothing_left _ _ (after (signers_spot first)) g.0) in
    let fields = and_then certs.piece certs.joined (and_then crls.piece crls.joined only) in
    let middle = and_then (whole_at (content_spot first)) content.1.joined fields in
    let all = and_then (whole_at first) version.1.joined (and_then (whole_at (algorithms_spot first)) algorithms.1.joined middle) in
    let parts : SignedParts = record {
      version = whole_at first;
      algorithms = whole_at (algorithms_spot first);
      content = whole_at (content_spot first);
      certs = certs.piece;
      crls = crls.piece;
      signers = whole_at (signers_spot first);
    } in
    let joined_is : content_at spot ≡ concat (signed_parts parts) = sym (inside-left spot) ∙ all in
    record {
      parts = parts;
      is_version = (content_at first, version.0, version.1.is_item);
      are_algorithms = algorithms.0;
      is_content = content.0;
      are_certs = certs.is_piece;
      are_crls = crls.is_piece;
      are_signers = signers.0;
      is_sequence = Der_with joined_is here.is_item;
    }

-- what follows certificates begins with no such field: revocation lists or signers
without_certs : (most : ℕ) (kept : List (List ℕ)) (crls signers content rest : List ℕ) → IsChoicesField most crls_tag kept crls →
    Der set_tag content signers → BeginsWithout context_constructed (crls ++ (signers ++ rest))
without_certs most kept crls signers content rest (inl none) item =
    subst (λ (x : List ℕ). BeginsWithout context_constructed (x ++ (signers ++ rest))) (sym none.0)
    (without_item context_constructed set_tag content signers rest item (λ e. absurd (omega arith)))
without_certs most kept crls signers content rest (inr some) item =
    without_item context_constructed crls_tag some.0 crls (signers ++ rest) some.2 (λ e. absurd (omega arith))

signed_parts_clear : (first : Spot) (signed : Signed) (bytes : List ℕ) (is : IsSigned signed bytes) → first.left ≡ concat (signed_parts is.parts) →
    (signed_parts_fault first ≡ None) × (signed_from first ≡ signed)
unfolding signed_parts_fault signed_from
signed_parts_clear first signed bytes is left =
    let version = integer_clear first is.is_version.0 is.parts.version _ is.is_version.1 is.is_version.2 left in
    let algorithms = algorithms_clear (algorithms_spot first) is.parts.algorithms _ is.are_algorithms version.1.after_is in
    let content = content_clear (content_spot first) signed.kind signed.content is.parts.content _ is.is_content algorithms.1 in
    let no_certs = without_certs most_crls signed.crls is.parts.crls is.parts.signers is.are_signers.content [] is.are_crls is.are_signers.is_set in
    let certs = choices_clear most_certs context_constructed (certs_spot first) signed.certs is.parts.certs (is.parts.crls ++ (is.parts.signers ++ []))
    is.are_certs no_certs content.after_is in
    let no_crls = without_item crls_tag set_tag is.are_signers.content is.parts.signers [] is.are_signers.is_set (λ e. absurd (omega arith)) in
    let crls = choices_clear most_crls crls_tag (crls_spot first) signed.crls is.parts.crls (is.parts.signers ++ []) is.are_crls no_crls certs.after_is in
    let signers = signers_clear (signers_spot first) signed.signers is.parts.signers [] is.are_signers crls.after_is in (
      rw (
        version.0,
        algorithms.0,
        content.no_fault,
        certs.no_fault,
        crls.no_fault,
        signers.no_fault,
        end_from_nothing kinds.Der kinds.Shape (after (signers_spot first)) signers.after_is,
      ) refl,
      same_signed (content_at (inside (content_spot first))) signed.kind (content_field_at (after (inside (content_spot first)))) signed.content
          (choices_at context_constructed (certs_spot first)) signed.certs (choices_at crls_tag (crls_spot first)) signed.crls
          (signers_at (signers_spot first)) signed.signers content.kind_is content.content_is certs.value_is crls.value_is signers.value_is,
    )

-- ---- the content, by its type

signed_data_from_none : (type : List ℕ) (spot : Spot) → AreOctets spot.left → type ≡ signed_data_oid → signed_fault spot ≡ None →
    Holds (SignedData (signed_from (inside spot))) type spot.left
unfolding signed_fault
signed_data_from_none type spot fits is n =
    let a = parts_of_none _ _ n in
    let b = parts_of_none _ _ a.1 in
    let c = parts_of_none _ _ b.1 in
    let here = found_part _ _ sequence_tag spot fits a.0 in
    let only = last (whole_at spot) here.joined (nothing_left _ _ (after spot) c.0) in
    (is, subst (λ (x : List ℕ). IsSigned (signed_from (inside spot)) x) (sym only) (signed_from_none spot here b.0))

-- types that are told apart by a test
differ : (type other : List ℕ) → bytes_eq type other ≡ false → type ≢ other
differ type other apart = λ e. both_ways (bytes_eq type other) apart (bytes_same type other e)

octets_hold : (type : List ℕ) (spot : Spot) → AreOctets spot.left → type ≢ signed_data_oid → type ≢ enveloped_data_oid → octets_fault spot ≡ None →
    Holds (Plain type (content_at spot)) type spot.left
octets_hold type spot fits not_signed not_enveloped n = (
  refl,
  record {
    not_signed = not_signed;
    enveloped = λ e. absurd (not_enveloped e);
    octets = λ e. octets_from_none spot fits n;
  },
)

enveloped_holds : (type inner : List ℕ) → type ≢ signed_data_oid → type ≡ enveloped_data_oid → Holds (Plain type []) type inner
enveloped_holds type inner not_signed is =
    (refl, record { not_signed = not_signed; enveloped = λ e. refl; octets = λ e. absurd (e is) })

inner_from_none : (type : List ℕ) (spot : Spot) → AreOctets spot.left → inner_fault type spot ≡ None → Holds (inner_at type spot) type spot.left
unfolding inner_fault inner_at
inner_from_none type spot fits n =
    elim (cases_Bool (bytes_eq type signed_data_oid)) [
      | inl signed ↦ rw signed (signed_data_from_none type spot fits (same_bytes type signed_data_oid signed) (rw signed at n))
      | inr plain ↦ elim (cases_Bool (bytes_eq type enveloped_data_oid)) [
        | inl enveloped ↦ rw (plain, enveloped)
            (enveloped_holds type spot.left (differ type signed_data_oid plain) (same_bytes type enveloped_data_oid enveloped))
        | inr other ↦
            rw (plain, other) (octets_hold type spot fits (differ type signed_data_oid plain) (differ type enveloped_data_oid other) (rw (plain, other) at n))
      ]
    ]

-- what is spelled has no fault, and is what is kept of it
record InnerClear (type : List ℕ) (spot : Spot) (info : Info) : Type 0 where
  pub no_fault : inner_fault type spot ≡ None
  pub value_is : inner_at type spot ≡ info

signed_clear : (signed : Signed) (spot : Spot) → IsSigned signed spot.left → (signed_fault spot ≡ None) × (signed_from (inside spot) ≡ signed)
unfolding signed_fault
signed_clear signed spot is =
    let here = stands spot sequence_tag (concat (signed_parts is.parts)) spot.left [] is.is_sequence (alone spot.left refl) in
    let parts = signed_parts_clear (inside spot) signed spot.left is here.inside_is in (
      rw (
        no_part-stands kinds.Der kinds.Shape spot sequence_tag (concat (signed_parts is.parts)) spot.left [] here,
        parts.0,
        end_from_nothing kinds.Der kinds.Shape (after spot) here.after_is,
      ) refl,
      parts.1,
    )

not_same : (type other : List ℕ) → type ≢ other → bytes_eq type other ≡ false
not_same type other apart =
    elim (cases_Bool (bytes_eq type other)) [ inl is ↦ absurd (apart (same_bytes type other is)) | inr is_other ↦ is_other ]

inner_clear : (info : Info) (type : List ℕ) (spot : Spot) → Holds info type spot.left → InnerClear type spot info
unfolding inner_fault inner_at
inner_clear (Plain kind content) type spot holds =
    let signed = not_same type signed_data_oid (λ e. holds.1.not_signed (sym holds.0 ∙ e)) in
    elim (cases_Bool (bytes_eq type enveloped_data_oid)) [
      | inl enveloped ↦
          let nothing = holds.1.enveloped (sym holds.0 ∙ same_bytes type enveloped_data_oid enveloped) in
          record { no_fault = rw (signed, enveloped) refl; value_is = rw (signed, enveloped, holds.0, nothing) refl }
      | inr other ↦
          let octets = octets_clear spot content spot.left (holds.1.octets (λ e. differ type enveloped_data_oid other (holds.0 ∙ e))) refl in
          record { no_fault = rw (signed, other) octets.0; value_is = rw (signed, other, holds.0, octets.1) refl }
    ]
inner_clear (SignedData signed) type spot holds =
    let parts = signed_clear signed spot holds.1 in
    let is = bytes_same type signed_data_oid holds.0 in
    record { no_fault = rw is parts.0; value_is = rw is (ap (λ (x : Signed). SignedData x) parts.1) }

-- ---- ContentInfo

front-left : (bytes : List ℕ) → (front bytes).left ≡ bytes
unfolding front
front-left bytes = refl

pub InfoOf_from_none : (bytes : List ℕ) → AreOctets bytes → info_fault bytes ≡ None → InfoOf bytes (info_at bytes)
unfolding info_fault info_at
InfoOf_from_none bytes fits n =
    let outer = front bytes in
    let a = parts_of_none _ _ n in
    let b = parts_of_none _ _ a.1 in
    let c = parts_of_none _ _ b.1 in
    let d = parts_of_none _ _ c.1 in
    let e = parts_of_none _ _ d.1 in
    let f = parts_of_none _ _ e.1 in
    let here = found_part _ _ sequence_tag outer (rw (front-left bytes) fits) a.0 in
    let identifier = found_part _ _ object_identifier_tag (inside outer) here.inside b.0 in
    let field = found_part _ _ context_constructed (after (inside outer)) identifier.after c.0 in
    let inner = inside (after (inside outer)) in
    let only = and_then (whole_at (after (inside outer))) field.joined (nothing_left _ _ (after (after (inside outer))) e.0) in
    let whole = sym (front-left bytes) ∙ last (whole_at outer) here.joined (nothing_left _ _ (after outer) f.0) in
    let item = Der_with (sym (inside-left outer) ∙ and_then (whole_at (inside outer)) identifier.joined only) here.is_item in
    record {
      type = type_at outer;
      inner = inner.left;
      is_content_info = record {
        identifier = whole_at (inside outer);
        field = whole_at (after (inside outer));
        is_identifier = identifier.is_item;
        is_field = Der_with (sym (inside-left (after (inside outer)))) field.is_item;
        is_sequence = subst (λ (x : List ℕ). Der sequence_tag (concat (whole_at (inside outer) ∷ whole_at (after (inside outer)) ∷ [])) x) (sym whole) item;
      };
      holds = inner_from_none (type_at outer) inner field.inside d.0;
    }

-- what is spelled has no fault, and is what is kept of it
pub record InfoClear (bytes : List ℕ) (info : Info) : Type 0 where
  pub no_fault : info_fault bytes ≡ None
  pub value_is : info_at bytes ≡ info

pub info_clear : (bytes : List ℕ) (info : Info) → InfoOf bytes info → InfoClear bytes info
unfolding info_fault info_at
info_clear bytes info is =
    let outer = front bytes in
    let parts = is.is_content_info in
    let content = concat (parts.identifier ∷ parts.field ∷ []) in
    let here = stands outer sequence_tag content bytes [] parts.is_sequence (front-left bytes ∙ alone bytes refl) in
    let identifier = stands (inside outer) object_identifier_tag is.type parts.identifier (concat (parts.field ∷ [])) parts.is_identifier here.inside_is in
    let field = stands (after (inside outer)) context_constructed is.inner parts.field [] parts.is_field identifier.after_is in
    let inner = inside (after (inside outer)) in
    let holds = subst (λ (x : List ℕ). Holds info x inner.left) (sym identifier.content_is)
    (subst (λ (x : List ℕ). Holds info is.type x) (sym field.inside_is) is.holds) in
    let clear = inner_clear info (type_at outer) inner holds in
    record {
      no_fault = rw (
        no_part-stands kinds.Der kinds.Shape outer sequence_tag content bytes [] here,
        no_part-stands kinds.Der kinds.Shape (inside outer) object_identifier_tag is.type parts.identifier (concat (parts.field ∷ [])) identifier,
        no_part-stands kinds.Der kinds.Shape (after (inside outer)) context_constructed is.inner parts.field [] field,
        clear.no_fault,
        end_from_nothing kinds.Der kinds.Shape (after (after (inside outer))) field.after_is,
        end_from_nothing kinds.Der kinds.Shape (after outer) here.after_is,
      ) refl;
      value_is = clear.value_is;
    }

pub one_message : (bytes : List ℕ) (info other : Info) → InfoOf bytes info → InfoOf bytes other → info ≡ other
one_message bytes info other is same = sym (info_clear bytes info is).value_is ∙ (info_clear bytes other same).value_is
