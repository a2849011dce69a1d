-- The revocation lists that read, each with the places of the issuers that it is current for.
use Rattle.std.specs.Prelude.{◌≡◌, ℕ, ℤ, true, List}
use Rattle.sz_x509.specs.CrlView.{list_view}
use Rattle.sz_x509.specs.RevocationList.{CrlOf, RevocationList}
use Rattle.sz_chain.specs.Cleared.{IsAmong, IsCurrent, IsRevokedBy}
use Rattle.sz_chain.specs.Places.{issuer_at}
use Rattle.sz_chain.specs.Sets.{AreAt, At, has}
use Rattle.sz_chain.specs.declared.lists.CurrentList.{CurrentList}
use Rattle.sz_chain.specs.declared.place.Place.{Place}
use Rattle.sz_chain.specs.declared.set.PlaceSet.{PlaceSet}

-- a list, and those of the wanted places for which it is current
pub record IsTold (when : ℤ) (crls : List (List ℕ)) (places : List Place) (wanted : PlaceSet) (told : CurrentList)
    : Type 0 where
  pub among : IsAmong crls (list_view told.list)
  pub issuers : AreAt places
      (λ at place. IsCurrent when (issuer_at place) (list_view told.list) × (has wanted at ≡ true)) told.issuers

-- the list is one of these
pub record IsOneOf (lists : List CurrentList) (list : RevocationList) : Type 0 where
  pub at : ℕ
  pub told : CurrentList
  pub is_at : At lists at told
  pub is_list : list_view told.list ≡ list

-- these are the lists among the strings
pub record AreLists (when : ℤ) (crls : List (List ℕ)) (places : List Place) (wanted : PlaceSet)
    (lists : List CurrentList) : Type 0 where
  pub each : (at : ℕ) (told : CurrentList) → At lists at told → IsTold when crls places wanted told
  pub all : (list : RevocationList) → IsAmong crls list → IsOneOf lists list

-- each of the lists reads
abbrev pub AreRead : List CurrentList → Type 0
AreRead lists =
    (at : ℕ) (told : CurrentList) → At lists at told → ((bytes : List ℕ) × CrlOf bytes (list_view told.list))

-- a list is current for the place, and none that is has the serial number
pub record ClearAt (lists : List CurrentList) (place : ℕ) (serial : List ℕ) : Type 0 where
  pub told : (at : ℕ) × (told : CurrentList) × At lists at told × (has told.issuers place ≡ true)
  pub not_revoked : (at : ℕ) (told : CurrentList) → At lists at told → has told.issuers place ≡ true
      → IsRevokedBy (list_view told.list) serial → ⊥
