-- Types of content by their identifiers.
use Rattle.std.specs.Prelude.{bytes_eq}
use Rattle.std.specs.List.{list_any}
use Rattle.std.proofs.Common.{◌≡◌, ℕ, true, false, Bor, List, refl}
use Rattle.std.proofs.lemmas.Bool.{both_ways}
use Rattle.sz_der.proofs.Octets.{bytes_same}
use Rattle.sz_cms.specs.Kind.{identifier_of, named}
use Rattle.sz_cms.specs.View.{IsNamed, KindsAreApart}
use Rattle.sz_cms.specs.declared.kind.Kind.TheVariants as kind

-- one without a name has not the identifier of one with a name
has_no_name : (identifier : List ℕ) (other : Bor (List ℕ)) → list_any (bytes_eq identifier) named ≡ true → IsNamed (kind.Other other) →
    other.now ≡ identifier → ⊥
has_no_name identifier other one is same = both_ways (list_any (bytes_eq other.now) named) is.1 (rw same one)

apart : (identifier other : List ℕ) → bytes_eq other identifier ≡ false → other ≡ identifier → ⊥
apart identifier other differ same = both_ways (bytes_eq other identifier) differ (bytes_same other identifier same)

pub kinds_are_apart : KindsAreApart
kinds_are_apart (kind.Other identifier) other name is same = absurd name
kinds_are_apart kind.Data kind.Data name is same = refl
kinds_are_apart kind.Data (kind.Other other) name is same = absurd (has_no_name (identifier_of kind.Data) other refl is same)
kinds_are_apart kind.Data other name is same = absurd (apart (identifier_of kind.Data) (identifier_of other) refl same)
kinds_are_apart kind.Voucher kind.Voucher name is same = refl
kinds_are_apart kind.Voucher (kind.Other other) name is same = absurd (has_no_name (identifier_of kind.Voucher) other refl is same)
kinds_are_apart kind.Voucher other name is same = absurd (apart (identifier_of kind.Voucher) (identifier_of other) refl same)
kinds_are_apart kind.ConveyedJson kind.ConveyedJson name is same = refl
kinds_are_apart kind.ConveyedJson (kind.Other other) name is same = absurd (has_no_name (identifier_of kind.ConveyedJson) other refl is same)
kinds_are_apart kind.ConveyedJson other name is same = absurd (apart (identifier_of kind.ConveyedJson) (identifier_of other) refl same)
kinds_are_apart kind.ConveyedXml kind.ConveyedXml name is same = refl
kinds_are_apart kind.ConveyedXml (kind.Other other) name is same = absurd (has_no_name (identifier_of kind.ConveyedXml) other refl is same)
kinds_are_apart kind.ConveyedXml other name is same = absurd (apart (identifier_of kind.ConveyedXml) (identifier_of other) refl same)
kinds_are_apart kind.Enveloped kind.Enveloped name is same = refl
kinds_are_apart kind.Enveloped (kind.Other other) name is same = absurd (has_no_name (identifier_of kind.Enveloped) other refl is same)
kinds_are_apart kind.Enveloped other name is same = absurd (apart (identifier_of kind.Enveloped) (identifier_of other) refl same)
