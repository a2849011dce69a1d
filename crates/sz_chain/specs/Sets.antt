-- Sets of places: which numbers are in them, and what the places that are in one have.
use Rattle.std.specs.Prelude.{◌≡◌, ◌<◌, ◌==◌, ◌↔◌, ℕ, Bool, true, List, Some, slice_get}
use Rattle.std.specs.Int.{bit_at}
use Rattle.sz_chain.specs.declared.set.PlaceSet.{PlaceSet}

-- the place is in the set
unfoldable pub has : PlaceSet → ℕ → Bool
has set place = bit_at set.bits place == 1

-- the element at this place, counted from 0
abbrev pub At : {A : Type 0} → List A → ℕ → A → Type 0
At xs place x = slice_get xs place ≡ Some x

-- of the first n places those are in the set whose elements are so, and no others
abbrev pub AreFirst : {A : Type 0} → ℕ → List A → (ℕ → A → Type 0) → PlaceSet → Type 0
AreFirst {A} n xs Is set =
    (place : ℕ) → (has set place ≡ true) ↔ ((place < n) × ((x : A) × At xs place x × Is place x))

-- the places are in the set whose elements are so, and no others
abbrev pub AreAt : {A : Type 0} → List A → (ℕ → A → Type 0) → PlaceSet → Type 0
AreAt {A} xs Is set = (place : ℕ) → (has set place ≡ true) ↔ ((x : A) × At xs place x × Is place x)
