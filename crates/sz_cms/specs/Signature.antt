-- What a signature covers, and when the digest of a signer is that of the content (RFC 5652 sections 5.4 and 11).
use Rattle.std.specs.Prelude.{◌≡◌, ℕ, true, List, ◌∷◌, drop, Option, Some, None}
use Rattle.sha2.specs.Sha256.{sha256}
use Rattle.sz_der.specs.Tags.{set_tag}
use Rattle.sz_cms.specs.Message.{SignedAttributes, Signer}
use Rattle.sz_cms.specs.Identifiers.{data_oid}

-- The bytes that are signed (5.4): the content, or where there are signed attributes these with the tag of SET in place
-- of the first byte, which is that of `[0]`.
abbrev pub covered_by : Option SignedAttributes → List ℕ → List ℕ
covered_by None content = content
covered_by (Some attributes) content = set_tag ∷ drop 1 attributes.whole

abbrev pub covered_of : Signer → List ℕ → List ℕ
covered_of signer content = covered_by signer.attributes content

-- The attributes name the type of the content (11.1) and hold its digest (11.2); without attributes the type is id-data
-- (5.3).
abbrev pub NamesContent : Option SignedAttributes → List ℕ → List ℕ → Type 0
NamesContent None kind content = kind ≡ data_oid
NamesContent (Some attributes) kind content =
    (attributes.content_type ≡ kind) × (attributes.digest ≡ sha256 content)

-- the signer's digest is that of this content, of a type given by its object identifier; by other algorithms none is
pub record DigestFits (signer : Signer) (kind content : List ℕ) : Type 0 where
  pub by_hss : signer.by_hss ≡ true
  pub names_content : NamesContent signer.attributes kind content
