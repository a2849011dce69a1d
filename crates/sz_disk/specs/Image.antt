-- Images: the bytes of a whole disk.
use Rattle.std.specs.Prelude.{◌≡◌, ◌⊎◌, ℕ, ◌+◌, ◌≤◌, List, [], ◌∷◌, ◌++◌, length, take, drop}

-- n bytes of an image, from a place on
abbrev pub part : List ℕ → ℕ → ℕ → List ℕ
part image at n = take n (drop at image)

-- the image with these bytes in the place of those that stand from a place on
abbrev pub patched : ℕ → List ℕ → List ℕ → List ℕ
patched at bytes image = take at image ++ bytes ++ drop (at + length bytes) image

-- any bytes in the range of n bytes from a place on, the same elsewhere
pub record ChangedIn (at n : ℕ) (before after : List ℕ) : Type 0 where
  pub front : take at after ≡ take at before
  pub back : drop (at + n) after ≡ drop (at + n) before
  pub size : length after ≡ length before

-- any bytes in these ranges of a place and a length, the same elsewhere
abbrev pub ChangedInEach : List (ℕ × ℕ) → List ℕ → List ℕ → Type 0
ChangedInEach [] before after = after ≡ before
ChangedInEach (range ∷ ranges) before after =
    (middle : List ℕ) × ChangedIn range.0 range.1 before middle × ChangedInEach ranges middle after

-- an image that came by R from one of those that might have been left
abbrev pub LeftBy : (List ℕ → List ℕ → Type 0) → (List ℕ → Type 0) → List ℕ → Type 0
LeftBy R leaves image = (whole : List ℕ) × leaves whole × R whole image

-- one of those, with any bytes in this range
abbrev pub TornFrom : ℕ → ℕ → (List ℕ → Type 0) → List ℕ → Type 0
TornFrom at n leaves image = LeftBy (ChangedIn at n) leaves image

-- n bytes from a place on lie outside a range
abbrev pub IsOutside : ℕ → ℕ → ℕ × ℕ → Type 0
IsOutside place n range = (place + n ≤ range.0) ⊎ (range.0 + range.1 ≤ place)

-- no change in this range makes the fact false
abbrev pub IsSpared : ℕ × ℕ → (List ℕ → Type 0) → Type 0
IsSpared range P = (before after : List ℕ) → ChangedIn range.0 range.1 before after → P before → P after

-- no change in any of these ranges does
abbrev pub IsSparedByAll : List (ℕ × ℕ) → (List ℕ → Type 0) → Type 0
IsSparedByAll [] P = Unit {0}
IsSparedByAll (range ∷ ranges) P = IsSpared range P × IsSparedByAll ranges P
