-- Chains of certificates from a signer's up to a trust anchor (RFC 5280 section 6.1, in this project's profile).
use Rattle.std.specs.Prelude.{◌≡◌, ◌≤ℤ◌, ◌≤◌, ◌+◌, ℕ, ℤ, ⊤, Bool, true, not, if◌then◌else◌, List, [], ◌∷◌, length, drop, Option, Some, None, bytes_eq}
use Rattle.std.specs.List.{Contains}
use Rattle.sz_lms.specs.Hss.{HssOk}
use Rattle.sz_x509.specs.Certificate.{Certificate, CertOf}
use Rattle.sz_chain.specs.Cleared.{Cleared}
use Rattle.sz_chain.specs.Issuer.{anchor_of, digital_signature, Issuer, issuer_of, key_cert_sign, MayUse}

-- the most certificates of a chain, the anchor not counted
abbrev pub most_certs : ℕ
most_certs = 8

-- one of these strings is this certificate
abbrev pub IsIn : List (List ℕ) → Certificate → Type 0
IsIn certs cert = (bytes : List ℕ) × Contains certs bytes × CertOf bytes cert

-- ---- of one certificate

-- valid at the time, ends included (4.1.2.5)
pub record IsValidAt (when : ℤ) (cert : Certificate) : Type 0 where
  pub begun : cert.not_before ≤ℤ when
  pub not_over : when ≤ℤ cert.not_after

-- it may sign messages at the time
pub record MaySign (when : ℤ) (cert : Certificate) : Type 0 where
  pub valid : IsValidAt when cert
  pub usage : MayUse digital_signature cert.restrictions.usage

-- it may issue certificates at the time (4.2.1.3, 4.2.1.9)
pub record IsAuthority (when : ℤ) (cert : Certificate) : Type 0 where
  pub valid : IsValidAt when cert
  pub ca : cert.restrictions.ca ≡ true
  pub usage : MayUse key_cert_sign cert.restrictions.usage

-- so many certificates are within the path length, where there is one (4.2.1.9)
abbrev pub IsWithin : Option ℕ → ℕ → Type 0
IsWithin None count = ⊤
IsWithin (Some path_len) count = count ≤ path_len

-- a certificate that isn't self-issued counts against path lengths (4.2.1.9, 6.1)
abbrev pub counts : Certificate → Bool
counts cert = not (bytes_eq cert.subject cert.issuer)

abbrev pub one_if : Bool → ℕ
one_if condition = if condition then 1 else 0

-- ---- of a list of certificates, from the signer's up

-- the signer's certificate, which is the anchor where the list is empty
abbrev pub lowest : List Certificate → Certificate → Certificate
lowest [] anchor = anchor
lowest (cert ∷ above) anchor = cert

-- what issues the certificate below these: the first of them, or the anchor
abbrev pub next_issuer : List Certificate → Certificate → Issuer
next_issuer [] anchor = anchor_of anchor
next_issuer (issuer ∷ above) anchor = issuer_of issuer

-- the certificate names its issuer, is signed with the issuer's key, and is cleared
pub record IsIssuedBy (crls : Option (List (List ℕ))) (when : ℤ) (issuer : Issuer) (cert : Certificate) : Type 0 where
  pub named : cert.issuer ≡ issuer.name
  pub signed : HssOk issuer.key cert.tbs cert.signature
  pub cleared : Cleared crls when issuer cert

-- each certificate is issued by the next, and the last by the anchor
abbrev pub AreLinked : Option (List (List ℕ)) → ℤ → List Certificate → Certificate → Type 0
AreLinked crls when [] anchor = ⊤
AreLinked crls when (cert ∷ above) anchor =
    IsIssuedBy crls when (next_issuer above anchor) cert × AreLinked crls when above anchor

-- each of these may issue certificates; so many that count stand between the first of them and the signer's, and these
-- are within the path length
abbrev pub AreIssuers : ℤ → ℕ → List Certificate → Type 0
AreIssuers when between [] = ⊤
AreIssuers when between (issuer ∷ above) =
    IsAuthority when issuer × IsWithin issuer.restrictions.path_len between
    × AreIssuers when (between + one_if (counts issuer)) above

-- the certificates lead from the first of them up to the anchor; or there is none, and the anchor itself signs
pub record Chain (crls : Option (List (List ℕ))) (when : ℤ) (certs : List Certificate) (anchor : Certificate)
    : Type 0 where
  pub few : length certs ≤ most_certs
  pub signs : MaySign when (lowest certs anchor)
  pub issuers : AreIssuers when 0 (drop 1 certs)
  pub links : AreLinked crls when certs anchor
