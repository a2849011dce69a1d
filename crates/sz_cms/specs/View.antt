-- What contracts see of a message that was read: the values of its slices.
use Rattle.std.specs.Prelude.{◌≡◌, ℕ, List, ◌∷◌, map, Option, Some, None}
use Rattle.std.specs.Option.{option_copied}
use Rattle.sz_cms.specs.Kind.{HasName, identifier_of, IsKindOf}
use Rattle.sz_cms.specs.Message as message
use Rattle.sz_cms.specs.declared.info.Info.{Info}
use Rattle.sz_cms.specs.declared.info.Info.TheVariants as info
use Rattle.sz_cms.specs.declared.info.Signed.{Signed}
use Rattle.sz_cms.specs.declared.kind.Kind.{Kind}
use Rattle.sz_cms.specs.declared.signer.Covered.{Covered}
use Rattle.sz_cms.specs.declared.signer.Identifier.{Identifier}
use Rattle.sz_cms.specs.declared.signer.Identifier.TheVariants as identifier
use Rattle.sz_cms.specs.declared.signers.Algorithm.{Algorithm}
use Rattle.sz_cms.specs.declared.signer.SignedAttributes.{SignedAttributes}
use Rattle.sz_cms.specs.declared.signer.Signer.{Signer}

abbrev pub names_of : Identifier → message.Identifier
names_of (identifier.IssuerSerial issuer serial) = message.IssuerSerial issuer.now serial.now
names_of (identifier.KeyId octets) = message.KeyId octets.now

abbrev pub attributes_of : Option SignedAttributes → Option message.SignedAttributes
attributes_of None = None
attributes_of (Some attributes) = Some (record {
  whole = attributes.whole.now;
  content_type = attributes.content_type.now;
  digest = attributes.digest.now;
})

abbrev pub signer_of : Signer → message.Signer
signer_of signer = record {
  identifier = names_of signer.identifier;
  by_hss = signer.by_hss;
  attributes = attributes_of signer.attributes;
  signature = signer.signature.now;
}

abbrev pub signed_of : Signed → message.Signed
signed_of signed = record {
  kind = identifier_of signed.kind;
  content = option_copied signed.content;
  certs = map (λ cert. cert.now) signed.certs.items;
  crls = map (λ crl. crl.now) signed.crls.items;
  signers = map signer_of signed.signers.items;
}

abbrev pub info_of : Info → message.Info
info_of (info.Plain kind content) = message.Plain (identifier_of kind) content.now
info_of (info.Signed signed) = message.SignedData (signed_of signed)

-- a type of content that has a name is seen by its name
abbrev pub IsNamed : Kind → Type 0
IsNamed kind = IsKindOf kind (identifier_of kind)

-- a type with the identifier of one that has a name is that type
abbrev pub KindsAreApart : Type 0
KindsAreApart =
    (kind other : Kind) → HasName kind → IsNamed other → identifier_of other ≡ identifier_of kind → other ≡ kind

abbrev pub kind_of : Info → Kind
kind_of (info.Plain kind content) = kind
kind_of (info.Signed signed) = signed.kind

-- the first byte, where there is one, and the rest
abbrev pub bytes_after : Option ℕ → List ℕ → List ℕ
bytes_after None rest = rest
bytes_after (Some first) rest = first ∷ rest

abbrev pub covered_bytes : Covered → List ℕ
covered_bytes covered = bytes_after covered.first covered.rest.now

abbrev pub algorithm_of : Algorithm → message.Algorithm
algorithm_of algorithm = record { identifier = algorithm.identifier.now; parameters = algorithm.parameters.now }
