-- The two signed attributes that are written stand in the order of a SET OF.
use Rattle.std.proofs.Common.{◌≡◌, ℕ, inl, inr, ◌+◌, ◌<◌, List, [], ◌∷◌, ◌++◌, length, ap, ◌∙◌, arith}
use Rattle.std.specs.List.{concat}
use Rattle.std.proofs.lemmas.List.{append-nil, length-append}
use Rattle.sha2.specs.Sha256.{sha256}
use Rattle.sha2.proofs.Facts256.{length-sha256}
use Rattle.sz_der.specs.Der.{Der, IsLength}
use Rattle.sz_cms.specs.Kind.{identifier_of, IsWritten}
use Rattle.sz_cms.specs.Spelled.{id_content_type, IsOneValued, id_message_digest, StandsBefore}
use Rattle.sz_cms.specs.declared.kind.Kind.{Kind}
use Rattle.sz_cms.specs.declared.kind.Kind.TheVariants as kind

-- a length below 128 is one octet
short : (octets : List ℕ) (size : ℕ) → IsLength octets size → size < 128 → octets ≡ size ∷ []
short [] size is below = absurd is
short (first ∷ octets) size (inl is) below = ap (λ (x : List ℕ). first ∷ x) is.0 ∙ ap (λ (x : ℕ). x ∷ []) is.1
short (first ∷ octets) size (inr is) below = absurd (omega (arith, is.not_short, below))

begins : (tag : ℕ) (content whole : List ℕ) → Der tag content whole → length content < 128 → whole ≡ tag ∷ length content ∷ content
begins tag content whole is below =
    is.spelled ∙ ap (λ (x : List ℕ). tag ∷ (x ++ content)) (short is.size (length content) is.is_size below)

takes : (tag : ℕ) (content whole : List ℕ) → Der tag content whole → length content < 128 → length whole ≡ 2 + length content
takes tag content whole is below = omega (arith, ap length (begins tag content whole is below))

-- the octets behind the tag and the length of an attribute, as a count
holds : (type : List ℕ) (tag : ℕ) (content bytes : List ℕ) (is : IsOneValued type tag content bytes) → length type + length content < 100 →
    length (concat (is.identifier ∷ is.set ∷ [])) ≡ 6 + (length type + length content)
holds type tag content bytes is below =
    let identifier = takes 6 type is.identifier is.is_identifier (omega (arith, below)) in
    let value = takes tag content is.value is.is_value (omega (arith, below)) in
    let set = takes 49 is.value is.set is.is_set (omega (arith, value, below)) in
    let joined = length-append is.identifier (is.set ++ []) in
    let last = ap length (append-nil is.set) in
    omega (arith, identifier, value, set, joined, last)

-- the shorter of two attributes stands before the other
shorter : (type other : List ℕ) (tag next : ℕ) (content value first second : List ℕ) → IsOneValued type tag content first →
    IsOneValued other next value second → length type + length content < length other + length value → length other + length value < 100 →
    StandsBefore first second
shorter type other tag next content value first second a b ascends below =
    let held = holds type tag content first a (omega (arith, ascends, below)) in
    let holding = holds other next value second b below in
    record {
      same = 48 ∷ [];
      lower = length (concat (a.identifier ∷ a.set ∷ []));
      higher = length (concat (b.identifier ∷ b.set ∷ []));
      rest = concat (a.identifier ∷ a.set ∷ []);
      other = concat (b.identifier ∷ b.set ∷ []);
      is_first = begins 48 (concat (a.identifier ∷ a.set ∷ [])) first a.is_sequence (omega (arith, held, ascends, below));
      is_second = begins 48 (concat (b.identifier ∷ b.set ∷ [])) second b.is_sequence (omega (arith, holding, below));
      ascends = omega (arith, held, holding, ascends);
    }

-- an identifier that is written has fewer octets than a digest
few : (type : Kind) → IsWritten type → length (identifier_of type) < 32
few kind.Data written = omega arith
few kind.Voucher written = omega arith
few kind.ConveyedJson written = omega arith
few kind.ConveyedXml written = omega arith
few kind.Enveloped written = absurd written
few (kind.Other identifier) written = absurd written

pub type_before_digest : (type : Kind) → IsWritten type → (content first second : List ℕ) → IsOneValued id_content_type 6 (identifier_of type) first →
    IsOneValued id_message_digest 4 (sha256 content) second → StandsBefore first second
type_before_digest type written content first second a b =
    let long = length-sha256 content in
    shorter id_content_type id_message_digest 6 4 (identifier_of type) (sha256 content) first second a b (omega (arith, few type written, long))
    (omega (arith, long))
