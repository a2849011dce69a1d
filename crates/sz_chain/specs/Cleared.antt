-- Which certificates the revocation lists clear (RFC 5280 section 6.3, in this project's profile).
use Rattle.std.specs.Prelude.{◌≡◌, ◌≤ℤ◌, ℕ, ℤ, ⊤, true, List, Option, Some, None}
use Rattle.std.specs.List.{Contains}
use Rattle.sz_lms.specs.Hss.{HssOk}
use Rattle.sz_x509.specs.Certificate.{Certificate}
use Rattle.sz_x509.specs.RevocationList.{AreEntries, CrlOf, is_listed, RevocationList}
use Rattle.sz_chain.specs.Issuer.{crl_sign, Issuer, MayUse}

-- the time doesn't exceed that of the next list, where that is told
abbrev pub IsNotOver : ℤ → Option ℤ → Type 0
IsNotOver when None = ⊤
IsNotOver when (Some next_update) = when ≤ℤ next_update

-- a list of this issuer that is current at the time
pub record IsCurrent (when : ℤ) (issuer : Issuer) (list : RevocationList) : Type 0 where
  pub named : list.issuer ≡ issuer.name
  pub usage : MayUse crl_sign issuer.usage
  pub issued : list.this_update ≤ℤ when
  pub not_over : IsNotOver when list.next_update
  pub signed : HssOk issuer.key list.tbs list.signature

-- one of these strings is this list
abbrev pub IsAmong : List (List ℕ) → RevocationList → Type 0
IsAmong crls list = (bytes : List ℕ) × Contains crls bytes × CrlOf bytes list

-- one of the entries of the list has this serial number
abbrev pub IsRevokedBy : RevocationList → List ℕ → Type 0
IsRevokedBy list serial =
    (serials : List (List ℕ)) × AreEntries serials list.entries × (is_listed serial serials ≡ true)

-- one of the lists is current for the issuer, and no such list has the certificate's serial number
pub record IsCleared (crls : List (List ℕ)) (when : ℤ) (issuer : Issuer) (cert : Certificate) : Type 0 where
  pub told : (list : RevocationList) × IsAmong crls list × IsCurrent when issuer list
  pub not_revoked : (list : RevocationList) → IsAmong crls list → IsCurrent when issuer list
      → IsRevokedBy list cert.serial → ⊥

-- no lists are asked, or they clear the certificate
abbrev pub Cleared : Option (List (List ℕ)) → ℤ → Issuer → Certificate → Type 0
Cleared None when issuer cert = ⊤
Cleared (Some crls) when issuer cert = IsCleared crls when issuer cert
