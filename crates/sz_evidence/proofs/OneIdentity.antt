-- An identity file is read as one identity or refused by one name, and never as nothing.
use Rattle.std.proofs.Common.{◌≡◌, inl, inr, ℕ, List, [], ◌∷◌, Result, Ok, Err, refl, sym, ap, ◌∙◌, subst}
use Rattle.serde_json.specs.Data.{Data, Items}
use Rattle.sz_base.specs.declared.identity.Identity.{Identity}
use Rattle.sz_json.specs.Json.{IsJson}
use Rattle.sz_json.specs.declared.name.Name.{Name}
use Rattle.sz_json.specs.declared.name.Name.TheVariants as name
use Rattle.sz_evidence.specs.IdentityFile.{AreAnchors, FirstMissing, HasAnchors, HasText, IdentityOf, IsBadIdentity, IsIdentity, members, ReadsAs}
use Rattle.sz_evidence.proofs.Members.{one_list}
use Rattle.sz_evidence.proofs.OneValue.{one_value}

one_text : (asked : Name) (IsForm : List ℕ → Type 0) (value : Data) (text other : List ℕ) → HasText asked IsForm value text →
    HasText asked IsForm value other → text ≡ other
one_text asked IsForm value text other is same =
    let both : Ok text ≡ Ok other = sym is.is_text ∙ same.is_text in
    cc

same_anchors : (value : Data) (anchors others : List (List ℕ)) → HasAnchors value anchors → HasAnchors value others → anchors ≡ others
same_anchors value anchors others is same =
    let both : Ok same.entries ≡ Ok is.entries = sym same.is_list ∙ is.is_list in
    let e : same.entries ≡ is.entries = cc in
    one_list is.entries anchors others is.each (subst (λ (entries : Items). AreAnchors entries others) e same.each)

same_parts : (identity : Identity) (serial os_name os_version : List ℕ) (anchors : List (List ℕ)) → identity.serial ≡ serial →
    identity.anchors ≡ anchors → identity.os_name ≡ os_name → identity.os_version ≡ os_version
    → identity ≡ record { serial = serial; anchors = anchors; os_name = os_name; os_version = os_version }
same_parts identity serial os_name os_version anchors s a n v = rw (← s, ← a, ← n, ← v) refl

one_is_identity : (value : Data) (identity other : Identity) → IsIdentity value identity → IsIdentity value other → identity ≡ other
one_is_identity value identity other is same =
    same_parts identity other.serial other.os_name other.os_version other.anchors (one_text _ _ value identity.serial other.serial is.serial same.serial)
    (same_anchors value identity.anchors other.anchors is.anchors same.anchors)
    (one_text _ _ value identity.os_name other.os_name is.os_name same.os_name)
    (one_text _ _ value identity.os_version other.os_version is.os_version same.os_version)

pub one_identity : (bytes : List ℕ) (identity other : Identity) → IdentityOf bytes identity → IdentityOf bytes other → identity ≡ other
one_identity bytes identity other is same =
    let e = one_value bytes same.0 is.0 same.1 is.1 in
    one_is_identity is.0 identity other is.2 (subst (λ (value : Data). IsIdentity value other) e same.2)

none_missing : (value : Data) (identity : Identity) (found : Name) → IsIdentity value identity → FirstMissing (members value) found → ⊥
none_missing value identity found is (inl missing) = missing.0 (identity.serial, is.serial)
none_missing value identity found is (inr (serial, inl missing)) = missing.0 (identity.os_name, is.os_name)
none_missing value identity found is (inr (serial, inr (os_name, inl missing))) = missing.0 (identity.os_version, is.os_version)
none_missing value identity found is (inr (serial, inr (os_name, inr (os_version, inl missing)))) = missing.0 (identity.anchors, is.anchors)
none_missing value identity found is (inr (serial, inr (os_name, inr (os_version, inr (anchors, never))))) = never

pub not_bad : (bytes : List ℕ) (identity : Identity) (found : Name) → IdentityOf bytes identity → IsBadIdentity bytes found → ⊥
not_bad bytes identity found is (inl bad) = bad.0 is.0 is.1
not_bad bytes identity found is (inr (value, is_value, missing)) =
    let e = one_value bytes value is.0 is_value is.1 in
    none_missing is.0 identity found is.2 (subst (λ (one : Data). FirstMissing (members one) found) e missing)

one_missing : (list : List (Name × Type 0)) (found other : Name) → FirstMissing list found → FirstMissing list other → found ≡ other
one_missing [] found other is same = absurd is
one_missing (member ∷ rest) found other (inl is) (inl same) = is.1 ∙ sym same.1
one_missing (member ∷ rest) found other (inl is) (inr same) = absurd (is.0 same.0)
one_missing (member ∷ rest) found other (inr is) (inl same) = absurd (same.0 is.0)
one_missing (member ∷ rest) found other (inr is) (inr same) = one_missing rest found other is.1 same.1

one_bad : (bytes : List ℕ) (found other : Name) → IsBadIdentity bytes found → IsBadIdentity bytes other → found ≡ other
one_bad bytes found other (inl is) (inl same) = is.1 ∙ sym same.1
one_bad bytes found other (inl is) (inr (value, is_value, missing)) = absurd (is.0 value is_value)
one_bad bytes found other (inr (value, is_value, missing)) (inl same) = absurd (same.0 value is_value)
one_bad bytes found other (inr (value, is_value, missing)) (inr (values, are_values, others)) =
    let e = one_value bytes values value are_values is_value in
    one_missing (members value) found other missing (subst (λ (one : Data). FirstMissing (members one) other) e others)

pub one_reading : (bytes : List ℕ) (answer other : Result Identity Name) → ReadsAs bytes answer → ReadsAs bytes other → answer ≡ other
one_reading bytes (Ok identity) (Ok other) is same = ap Ok (one_identity bytes identity other is same)
one_reading bytes (Ok identity) (Err found) is bad = absurd (not_bad bytes identity found is bad)
one_reading bytes (Err found) (Ok identity) bad is = absurd (not_bad bytes identity found is bad)
one_reading bytes (Err found) (Err other) is same = ap Err (one_bad bytes found other is same)

-- ---- some reading

module _ (bytes : List ℕ) (none : (answer : Result Identity Name) → ReadsAs bytes answer → ⊥) where
  module _ (value : Data) (is : IsJson bytes value) where
    bad : (found : Name) → FirstMissing (members value) found → ⊥
    bad found missing = none (Err found) (inr (value, is, missing))

    read_value : ⊥
    read_value =
        bad name.Serial (inl (
          λ serial. bad name.OsName (inr (
            serial,
            inl (
              λ os_name. bad name.OsVersion (inr (
                serial,
                inr (
                  os_name,
                  inl (
                    λ os_version. bad name.Anchors (inr (
                      serial,
                      inr (
                        os_name,
                        inr (
                          os_version,
                          inl (
                            λ anchors. none
                                (Ok (record { serial = serial.0; anchors = anchors.0; os_name = os_name.0; os_version = os_version.0 }))
                                (value, is, record { serial = serial.1; os_name = os_name.1; os_version = os_version.1; anchors = anchors.1 }),
                            refl,
                          ),
                        ),
                      ),
                    )),
                    refl,
                  ),
                ),
              )),
              refl,
            ),
          )),
          refl,
        ))

  pub some_reading : ⊥
  some_reading = none (Err name.Json) (inl (λ value is. read_value value is, refl))
