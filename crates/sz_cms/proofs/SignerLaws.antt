-- Signers and their parts: what has no fault is spelled as its relation says, and what is spelled so has none.
use Rattle.std.specs.List.{concat}
use Rattle.std.proofs.Common.{◌≡◌, ℕ, inl, inr, ◌⊎◌, true, false, List, [], ◌∷◌, ◌++◌, Option, None, refl, sym, ap, ◌∙◌, arith}
use Rattle.std.proofs.lemmas.Bool.{cases_Bool}
use Rattle.sz_der.specs.Der.{AreOctets, Der}
use Rattle.sz_der.specs.Integer.{is_integer, IsInteger}
use Rattle.sz_der.specs.Spots.{no_integer, after, content_at, inside, is_at_end, is_next, Spot, tag_at, whole_at}
use Rattle.sz_der.specs.Tags.{context_primitive, integer_tag, object_identifier_tag, sequence_tag}
use Rattle.sz_der.proofs.IntegerTest.{integer_test, IsInteger_from_test}
use Rattle.sz_der.proofs.Joined.{and_then, Der_with}
use Rattle.sz_der.proofs.Optional.{found_next, next_stands, without_item}
use Rattle.sz_der.proofs.Spots.{behind, Behind, end_from_nothing, Found, found, found_part, holds_from_rule, inside-left, nil_from_end, no_item-stands, no_part-stands, nothing_left, parts_of_none, rule_from_holds, Stands, stands}
use Rattle.sz_cms.specs.Message.{Algorithm, Identifier, IsAlgorithm, IsIdentifier, IsIssuerSerial, IsItem, IssuerSerial, KeyId}
use Rattle.sz_cms.specs.MessageFault.{algorithm_fault, identifier_fault, integer_fault, issuer_serial_fault, parameters_fault, parameters_spot}
use Rattle.sz_cms.specs.Places.{algorithm_at, identifier_at, issuer_serial_at, parameters_at}
use Rattle.sz_cms.specs.declared.fault.InfoKind.TheVariants as kinds

-- ---- INTEGER

pub integer_from_none : (spot : Spot) → AreOctets spot.left → integer_fault spot ≡ None → IsInteger (content_at spot) × Found spot integer_tag
unfolding no_integer
integer_from_none spot fits n =
    let a = parts_of_none _ _ n in
    let b = parts_of_none _ _ a.1 in (
      IsInteger_from_test (content_at spot) (holds_from_rule (is_integer (content_at spot)) kinds.Der spot b.0),
      found_part _ _ integer_tag spot fits a.0,
    )

pub integer_clear : (spot : Spot) (number whole rest : List ℕ) → IsInteger number → Der integer_tag number whole → spot.left ≡ whole ++ rest →
    (integer_fault spot ≡ None) × Stands spot integer_tag number whole rest
unfolding no_integer
integer_clear spot number whole rest minimal item joined =
    let here = stands spot integer_tag number whole rest item joined in
    let test : is_integer (content_at spot) ≡ true = rw here.content_is (integer_test number minimal) in (
      rw (
        no_part-stands kinds.Der kinds.Shape spot integer_tag number whole rest here,
        rule_from_holds (is_integer (content_at spot)) kinds.Der spot test,
      ) refl,
      here,
    )

-- ---- AlgorithmIdentifier

parameters_from_none : (spot : Spot) → AreOctets spot.left → parameters_fault spot ≡ None →
    ((parameters_at spot ≡ []) ⊎ IsItem (parameters_at spot)) × (spot.left ≡ parameters_at spot ++ [])
unfolding parameters_fault parameters_at
parameters_from_none spot fits n =
    elim (cases_Bool (is_at_end spot)) [
      | inl at_end ↦ rw at_end (inl refl, nil_from_end spot true at_end refl)
      | inr more ↦
          let a = parts_of_none _ _ (rw more at n) in
          let b = parts_of_none _ _ a.1 in
          let here = found kinds.Der spot fits a.0 in
          rw more (inr (tag_at spot, content_at spot, here.is_item), and_then (whole_at spot) here.joined (nothing_left _ _ (after spot) b.0))
    ]

parameters_clear : (spot : Spot) (parameters : List ℕ) → (parameters ≡ []) ⊎ IsItem parameters → spot.left ≡ parameters ++ [] →
    (parameters_fault spot ≡ None) × (parameters_at spot ≡ parameters)
unfolding parameters_fault parameters_at is_at_end
parameters_clear spot parameters (inl nothing) joined =
    let left : spot.left ≡ [] = joined ∙ ap (λ (x : List ℕ). x ++ []) nothing in
    rw left (refl, sym nothing)
parameters_clear spot parameters (inr item) joined =
    let here = stands spot item.0 item.1 parameters [] item.2 joined in
    (rw (here.is_some, no_item-stands kinds.Der here, end_from_nothing kinds.Der kinds.Shape (after spot) here.after_is) refl, rw here.is_some here.whole_is)

pub algorithm_from_none : (spot : Spot) → AreOctets spot.left → algorithm_fault spot ≡ None → IsAlgorithm (algorithm_at spot) (whole_at spot) × Behind spot
unfolding algorithm_fault algorithm_at
algorithm_from_none spot fits n =
    let a = parts_of_none _ _ n in
    let b = parts_of_none _ _ a.1 in
    let c = parts_of_none _ _ b.1 in
    let sequence = found_part _ _ sequence_tag spot fits a.0 in
    let identifier = found_part _ _ object_identifier_tag (inside spot) sequence.inside b.0 in
    let parameters = parameters_from_none (parameters_spot spot) identifier.after c.0 in (
      record {
        identifier = whole_at (inside spot);
        is_identifier = identifier.is_item;
        is_parameters = parameters.0;
        is_sequence = Der_with (sym (inside-left spot) ∙ and_then (whole_at (inside spot)) identifier.joined parameters.1) sequence.is_item;
      },
      behind sequence,
    )

same_algorithm : (identifier parameters : List ℕ) (algorithm : Algorithm) → identifier ≡ algorithm.identifier → parameters ≡ algorithm.parameters →
    ◌≡◌ {A = Algorithm} (record { identifier = identifier; parameters = parameters }) algorithm
same_algorithm identifier parameters algorithm a b = rw (a, b) refl

-- a value at a spot has no fault, and is what is kept of it
pub record Clear {A : Type 0} {F : Type 0} (fault : Option F) (at value : A) (spot : Spot) (rest : List ℕ) : Type 0 where
  pub no_fault : fault ≡ None
  pub value_is : at ≡ value
  pub after_is : (after spot).left ≡ rest
  pub some : is_at_end spot ≡ false

pub algorithm_clear : (spot : Spot) (algorithm : Algorithm) (whole rest : List ℕ) → IsAlgorithm algorithm whole → spot.left ≡ whole ++ rest →
    Clear (algorithm_fault spot) (algorithm_at spot) algorithm spot rest
unfolding algorithm_fault algorithm_at
algorithm_clear spot algorithm whole rest is joined =
    let sequence = stands spot sequence_tag (concat (is.identifier ∷ algorithm.parameters ∷ [])) whole rest is.is_sequence joined in
    let identifier = stands (inside spot) object_identifier_tag algorithm.identifier is.identifier (concat (algorithm.parameters ∷ [])) is.is_identifier
    sequence.inside_is in
    let parameters = parameters_clear (parameters_spot spot) algorithm.parameters is.is_parameters identifier.after_is in
    record {
      no_fault = rw (
        no_part-stands kinds.Der kinds.Shape spot sequence_tag (concat (is.identifier ∷ algorithm.parameters ∷ [])) whole rest sequence,
        no_part-stands kinds.Der kinds.Shape (inside spot) object_identifier_tag algorithm.identifier is.identifier
            (concat (algorithm.parameters ∷ [])) identifier,
        parameters.0,
      ) refl;
      value_is = same_algorithm (content_at (inside spot)) (parameters_at (parameters_spot spot)) algorithm identifier.content_is parameters.1;
      after_is = sequence.after_is;
      some = sequence.is_some;
    }

-- ---- SignerIdentifier

issuer_serial_from_none : (spot : Spot) → AreOctets spot.left → issuer_serial_fault spot ≡ None →
    IsIdentifier (issuer_serial_at spot) (whole_at spot) × Behind spot
unfolding issuer_serial_fault issuer_serial_at
issuer_serial_from_none spot fits n =
    let a = parts_of_none _ _ n in
    let b = parts_of_none _ _ a.1 in
    let c = parts_of_none _ _ b.1 in
    let d = parts_of_none _ _ c.1 in
    let sequence = found_part _ _ sequence_tag spot fits a.0 in
    let issuer = found_part _ _ sequence_tag (inside spot) sequence.inside b.0 in
    let serial = integer_from_none (after (inside spot)) issuer.after c.0 in
    let only = and_then (whole_at (after (inside spot))) serial.1.joined (nothing_left _ _ (after (after (inside spot))) d.0) in (
      record {
        names = content_at (inside spot);
        number = whole_at (after (inside spot));
        is_issuer = issuer.is_item;
        is_minimal = serial.0;
        is_serial = serial.1.is_item;
        is_sequence = Der_with (sym (inside-left spot) ∙ and_then (whole_at (inside spot)) issuer.joined only) sequence.is_item;
      },
      behind sequence,
    )

issuer_serial_clear : (spot : Spot) (issuer serial whole rest : List ℕ) → IsIssuerSerial issuer serial whole → spot.left ≡ whole ++ rest →
    Clear (issuer_serial_fault spot) (issuer_serial_at spot) (IssuerSerial issuer serial) spot rest
unfolding issuer_serial_fault issuer_serial_at
issuer_serial_clear spot issuer serial whole rest is joined =
    let sequence = stands spot sequence_tag (concat (issuer ∷ is.number ∷ [])) whole rest is.is_sequence joined in
    let name = stands (inside spot) sequence_tag is.names issuer (concat (is.number ∷ [])) is.is_issuer sequence.inside_is in
    let number = integer_clear (after (inside spot)) serial is.number [] is.is_minimal is.is_serial name.after_is in
    record {
      no_fault = rw (
        no_part-stands kinds.Der kinds.Shape spot sequence_tag (concat (issuer ∷ is.number ∷ [])) whole rest sequence,
        no_part-stands kinds.Der kinds.Shape (inside spot) sequence_tag is.names issuer (concat (is.number ∷ [])) name,
        number.0,
        end_from_nothing kinds.Der kinds.Shape (after (after (inside spot))) number.1.after_is,
      ) refl;
      value_is = rw (name.whole_is, number.1.content_is) refl;
      after_is = sequence.after_is;
      some = sequence.is_some;
    }

pub identifier_from_none : (spot : Spot) → AreOctets spot.left → identifier_fault spot ≡ None → IsIdentifier (identifier_at spot) (whole_at spot) × Behind spot
unfolding identifier_fault identifier_at
identifier_from_none spot fits n =
    elim (cases_Bool (is_next context_primitive spot)) [
      | inl next ↦
          let here = found_next _ context_primitive spot fits next (rw next at n) in
          rw next (here.is_item, behind here)
      | inr other ↦ rw other (issuer_serial_from_none spot fits (rw other at n))
    ]

pub identifier_clear : (spot : Spot) (identifier : Identifier) (whole rest : List ℕ) → IsIdentifier identifier whole → spot.left ≡ whole ++ rest →
    Clear (identifier_fault spot) (identifier_at spot) identifier spot rest
unfolding identifier_fault identifier_at
identifier_clear spot (IssuerSerial issuer serial) whole rest is joined =
    let other = without_item context_primitive sequence_tag _ whole rest is.is_sequence (λ e. absurd (omega arith)) spot joined in
    rw other (issuer_serial_clear spot issuer serial whole rest is joined)
identifier_clear spot (KeyId octets) whole rest is joined =
    let here = stands spot context_primitive octets whole rest is joined in
    let next = next_stands spot context_primitive octets whole rest here in
    rw next (record { no_fault = no_item-stands kinds.Der here; value_is = ap KeyId here.content_is; after_is = here.after_is; some = here.is_some })
