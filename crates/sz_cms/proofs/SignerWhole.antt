-- SignerInfo as a whole, and a list of them: what has no fault is spelled as the relation says, and what is spelled so
-- has none.
use Rattle.std.specs.Prelude.{map, nat_lt}
use Rattle.std.specs.List.{concat}
use Rattle.std.proofs.Common.{◌≡◌, ℕ, ◌+◌, inl, inr, ◌<◌, ◌≤◌, ◌&&◌, List, [], ◌∷◌, ◌++◌, length, None, refl, sym, ◌∙◌, arith, length-append}
use Rattle.std.proofs.lemmas.Bool.{cases_Bool, lt-ltb, ltb-true}
use Rattle.sz_der.specs.Der.{AreOctets}
use Rattle.sz_der.specs.Spots.{after_optional, content_at, inside, is_next, Spot, spots_from, whole_at}
use Rattle.sz_der.specs.Tags.{context_constructed, octet_string_tag, sequence_tag, set_tag}
use Rattle.sz_der.proofs.Joined.{after_nothing, and_then, Der_with}
use Rattle.sz_der.proofs.Optional.{absent, after_next, after_other, found_next, next_stands, Optional, present, without_item, without_nothing}
use Rattle.sz_der.proofs.Spots.{behind, Behind, end_from_nothing, Found, found_part, holds_from_rule, inside-left, no_item-stands, no_part-stands, nothing_left, parts_of_none, rule_from_holds, stands}
use Rattle.sz_cms.specs.Message.{AreSigners, IsOptional, IsSigner, Signer, signer_parts, SignerParts, is_hss_lms, is_sha256}
use Rattle.sz_cms.specs.MessageFault.{algorithm_spot, attributes_spot, digest_spot, each_after, identifier_spot, signature_spot, signer_fault, signer_parts_fault, signers_fault, unsigned_fault, unsigned_spot, unsigned_tag}
use Rattle.sz_cms.specs.Places.{algorithm_at, attributes_at, identifier_at, signer_at, signer_from, signers_at}
use Rattle.sz_cms.specs.declared.fault.InfoKind.TheVariants as kinds
use Rattle.sz_cms.specs.Limits.{most_signers}
use Rattle.sz_cms.proofs.AttributeLaws.{attributes_clear, attributes_from_none}
use Rattle.sz_cms.proofs.Lists.{are_written, clear_each, IsClear}
use Rattle.sz_cms.proofs.Readings.{by_hss_is, same_signer}
use Rattle.sz_cms.proofs.SignerLaws.{algorithm_clear, algorithm_from_none, Clear, identifier_clear, identifier_from_none, integer_clear, integer_from_none}

-- ---- unsigned attributes

unsigned_from_none : (spot : Spot) → AreOctets spot.left → unsigned_fault spot ≡ None → Optional spot unsigned_tag (IsOptional unsigned_tag)
unfolding unsigned_fault
unsigned_from_none spot fits n =
    elim (cases_Bool (is_next unsigned_tag spot)) [
      | inl next ↦
          let a = parts_of_none _ _ (rw next at n) in
          let here = found_next _ unsigned_tag spot fits next a.0 in
          present spot unsigned_tag (IsOptional unsigned_tag) here next (inr (content_at spot, here.is_item))
      | inr other ↦ absent spot unsigned_tag (IsOptional unsigned_tag) fits other (inl refl)
    ]

unsigned_clear : (spot : Spot) (piece : List ℕ) → IsOptional unsigned_tag piece → spot.left ≡ piece ++ [] →
    (unsigned_fault spot ≡ None) × ((after_optional unsigned_tag spot).left ≡ [])
unfolding unsigned_fault
unsigned_clear spot piece (inl nothing) joined =
    let left = after_nothing piece joined nothing in
    let other = without_nothing unsigned_tag spot left in
    (rw other refl, rw (after_other unsigned_tag spot other) left)
unsigned_clear spot piece (inr some) joined =
    let here = stands spot unsigned_tag some.0 piece [] some.1 joined in
    let next = next_stands spot unsigned_tag some.0 piece [] here in
    (rw (next, no_item-stands kinds.Der here) refl, rw (after_next unsigned_tag spot next) here.after_is)

-- ---- SignerInfo

signer_from_none : (spot : Spot) → Found spot sequence_tag → signer_parts_fault (inside spot) ≡ None → IsSigner (signer_at spot) (whole_at spot)
unfolding signer_parts_fault signer_from
signer_from_none spot here n =
    let first = inside spot in
    let a = parts_of_none _ _ n in
    let b = parts_of_none _ _ a.1 in
    let c = parts_of_none _ _ b.1 in
    let d = parts_of_none _ _ c.1 in
    let e = parts_of_none _ _ d.1 in
    let f = parts_of_none _ _ e.1 in
    let g = parts_of_none _ _ f.1 in
    let h = parts_of_none _ _ g.1 in
    let version = integer_from_none first here.inside a.0 in
    let identifier = identifier_from_none (identifier_spot first) version.1.after b.0 in
    let digest = algorithm_from_none (digest_spot first) identifier.1.after c.0 in
    let attributes = attributes_from_none (attributes_spot first) digest.1.after d.0 in
    let algorithm = algorithm_from_none (algorithm_spot first) attributes.after e.0 in
    let signature = found_part _ _ octet_string_tag (signature_spot first) algorithm.1.after f.0 in
    let unsigned = unsigned_from_none (unsigned_spot first) signature.after g.0 in
    let only = and_then unsigned.piece unsigned.joined (nothing_left _ _ (after_optional unsigned_tag (unsigned_spot first)) h.0) in
    let tail = and_then (whole_at (algorithm_spot first)) algorithm.1.joined (and_then (whole_at (signature_spot first)) signature.joined only) in
    let middle = and_then (whole_at (digest_spot first)) digest.1.joined (and_then attributes.piece attributes.joined tail) in
    let all = and_then (whole_at first) version.1.joined (and_then (whole_at (identifier_spot first)) identifier.1.joined middle) in
    let parts : SignerParts = record {
      version = whole_at first;
      identifier = whole_at (identifier_spot first);
      digest_algorithm = whole_at (digest_spot first);
      attributes = attributes.piece;
      signature_algorithm = whole_at (algorithm_spot first);
      signature = whole_at (signature_spot first);
      unsigned = unsigned.piece;
    } in
    let joined_is : content_at spot ≡ concat (signer_parts parts) = sym (inside-left spot) ∙ all in
    record {
      parts = parts;
      is_version = (content_at first, version.0, version.1.is_item);
      is_identifier = identifier.0;
      has_algorithms = record {
        digest = algorithm_at (digest_spot first);
        signature = algorithm_at (algorithm_spot first);
        is_digest = digest.0;
        is_signature = algorithm.0;
        told = refl;
      };
      is_attributes = attributes.is_piece;
      is_signature = signature.is_item;
      is_unsigned = unsigned.is_piece;
      is_sequence = Der_with joined_is here.is_item;
    }

signer_parts_clear : (first : Spot) (signer : Signer) (bytes : List ℕ) (is : IsSigner signer bytes) → first.left ≡ concat (signer_parts is.parts) →
    (signer_parts_fault first ≡ None) × (signer_from first ≡ signer)
unfolding signer_parts_fault signer_from
signer_parts_clear first signer bytes is left =
    let version = integer_clear first is.is_version.0 is.parts.version _ is.is_version.1 is.is_version.2 left in
    let identifier = identifier_clear (identifier_spot first) signer.identifier is.parts.identifier _ is.is_identifier version.1.after_is in
    let digest = algorithm_clear (digest_spot first) is.has_algorithms.digest is.parts.digest_algorithm _ is.has_algorithms.is_digest identifier.after_is in
    let behind_it = concat (is.parts.signature ∷ is.parts.unsigned ∷ []) in
    let without = without_item context_constructed sequence_tag _ is.parts.signature_algorithm behind_it is.has_algorithms.is_signature.is_sequence
    (λ e. absurd (omega arith)) in
    let attributes = attributes_clear (attributes_spot first) signer.attributes is.parts.attributes (is.parts.signature_algorithm ++ behind_it)
    is.is_attributes without digest.after_is in
    let algorithm = algorithm_clear (algorithm_spot first) is.has_algorithms.signature is.parts.signature_algorithm _ is.has_algorithms.is_signature
    attributes.after_is in
    let signature = stands (signature_spot first) octet_string_tag signer.signature is.parts.signature _ is.is_signature algorithm.after_is in
    let unsigned = unsigned_clear (unsigned_spot first) is.parts.unsigned is.is_unsigned signature.after_is in
    let by_hss = by_hss_is (algorithm_at (digest_spot first)) is.has_algorithms.digest (algorithm_at (algorithm_spot first)) is.has_algorithms.signature
    digest.value_is algorithm.value_is ∙ sym is.has_algorithms.told in (
      rw (
        version.0,
        identifier.no_fault,
        digest.no_fault,
        attributes.no_fault,
        algorithm.no_fault,
        no_part-stands kinds.Der kinds.Shape (signature_spot first) octet_string_tag _ _ _ signature,
        unsigned.0,
        end_from_nothing kinds.Der kinds.Shape (after_optional unsigned_tag (unsigned_spot first)) unsigned.1,
      ) refl,
      same_signer (identifier_at (identifier_spot first)) signer.identifier
          (is_sha256 (algorithm_at (digest_spot first)) && is_hss_lms (algorithm_at (algorithm_spot first))) signer.by_hss
          (attributes_at (attributes_spot first)) signer.attributes (content_at (signature_spot first)) signer.signature identifier.value_is by_hss
          attributes.value_is signature.content_is,
    )

-- ---- SET OF SignerInfo

signer_shows : (earlier : List Spot) (spot : Spot) → AreOctets spot.left → signer_fault earlier spot ≡ None →
    IsSigner (signer_at spot) (whole_at spot) × Behind spot
unfolding signer_fault
signer_shows earlier spot fits n =
    let a = parts_of_none _ _ n in
    let b = parts_of_none _ _ a.1 in
    let c = parts_of_none _ _ b.1 in
    let here = found_part _ _ sequence_tag spot fits a.0 in
    (signer_from_none spot here c.0, behind here)

signer_within : (earlier : List Spot) (spot : Spot) → signer_fault earlier spot ≡ None → length earlier < most_signers
unfolding signer_fault
signer_within earlier spot n =
    let a = parts_of_none _ _ n in
    let b = parts_of_none _ _ a.1 in
    ltb-true (length earlier) most_signers (holds_from_rule (nat_lt (length earlier) most_signers) (kinds.TooMany most_signers) spot b.0)

few_from_none : (earlier spots : List Spot) → length earlier ≤ most_signers → each_after signer_fault earlier spots ≡ None →
    length earlier + length (map signer_at spots) ≤ most_signers
few_from_none earlier [] few n = omega arith
few_from_none earlier (spot ∷ later) few n =
    let a = parts_of_none _ _ n in
    let b = parts_of_none _ _ a.1 in
    let within = signer_within earlier spot a.0 in
    let more = length-append earlier (spot ∷ []) in
    let rest = few_from_none (earlier ++ spot ∷ []) later (omega arith) b.0 in
    omega arith

pub signers_from_none : (spot : Spot) → AreOctets spot.left → signers_fault spot ≡ None → AreSigners (signers_at spot) (whole_at spot) × Behind spot
unfolding signers_fault signers_at
signers_from_none spot fits n =
    let list = inside spot in
    let a = parts_of_none _ _ n in
    let b = parts_of_none _ _ a.1 in
    let here = found_part _ _ set_tag spot fits a.0 in
    let are = are_written signer_fault IsSigner signer_at signer_shows (length list.left) [] list (omega arith) here.inside b.0 in
    let few = few_from_none [] (spots_from list) (omega arith) b.0 in (
      record { content = list.left; are_signers = are; is_set = Der_with (sym (inside-left spot)) here.is_item; few = omega arith },
      behind here,
    )

-- how many more there may be
record Room (earlier : List Spot) (signers : List Signer) : Type 0 where
  pub few : length earlier + length signers ≤ most_signers

signer_clear : (earlier : List Spot) (spot : Spot) (signer : Signer) (signers : List Signer) (whole rest : List ℕ) → Room earlier (signer ∷ signers) →
    IsSigner signer whole → spot.left ≡ whole ++ rest → IsClear signer_fault signer_at Room earlier spot signer signers rest
unfolding signer_fault
signer_clear earlier spot signer signers whole rest room is joined =
    let sequence = stands spot sequence_tag (concat (signer_parts is.parts)) whole rest is.is_sequence joined in
    let parts = signer_parts_clear (inside spot) signer whole is sequence.inside_is in
    let within = lt-ltb (length earlier) most_signers (omega (arith, room.few)) in
    record {
      no_fault = rw (
        no_part-stands kinds.Der kinds.Shape spot sequence_tag (concat (signer_parts is.parts)) whole rest sequence,
        rule_from_holds (nat_lt (length earlier) most_signers) (kinds.TooMany most_signers) spot within,
        parts.0,
      ) refl;
      value_is = parts.1;
      after_is = sequence.after_is;
      some = sequence.is_some;
      room = record { few = omega (arith, room.few, length-append earlier (spot ∷ [])) };
    }

pub signers_clear : (spot : Spot) (signers : List Signer) (whole rest : List ℕ) → AreSigners signers whole → spot.left ≡ whole ++ rest →
    Clear (signers_fault spot) (signers_at spot) signers spot rest
unfolding signers_fault signers_at
signers_clear spot signers whole rest are joined =
    let here = stands spot set_tag are.content whole rest are.is_set joined in
    let list = inside spot in
    let room : Room [] signers = record { few = omega (arith, are.few) } in
    let each = clear_each signer_fault IsSigner signer_at Room signer_clear (length list.left) [] list signers (omega arith)
    (rw here.inside_is are.are_signers) room in
    record {
      no_fault = rw (no_part-stands kinds.Der kinds.Shape spot set_tag are.content whole rest here, each.0) refl;
      value_is = each.1;
      after_is = here.after_is;
      some = here.is_some;
    }
