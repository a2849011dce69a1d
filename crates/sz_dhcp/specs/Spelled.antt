-- Items that are spelled one after another, and bytes that end inside one.
use Rattle.std.specs.Prelude.{◌≡◌, ◌≢◌, ℕ, ◌/◌, ◌%◌, List, [], ◌∷◌, ◌++◌, length}

-- a number in two bytes, the most significant first
abbrev pub two_bytes : ℕ → List ℕ
two_bytes number = number / 256 ∷ number % 256 ∷ []

-- the list is what each of the items stands for, one after another
abbrev pub Joined : {A B : Type 0} → (A → List B → Type 0) → List A → List B → Type 0
Joined StandsFor [] whole = whole ≡ []
Joined {A} {B} StandsFor (item ∷ items) whole =
    (own : List B) × (others : List B) × (whole ≡ own ++ others) × StandsFor item own × Joined StandsFor items others

-- the bytes are spelled as this item, and then the rest
pub record BeginsWith {A : Type 0} (IsSpelled : A → List ℕ → Type 0) (bytes : List ℕ) (item : A)
    (rest : List ℕ) : Type 0 where
  pub own : List ℕ
  pub spelled : IsSpelled item own
  pub joined : bytes ≡ own ++ rest

-- the bytes are the beginning of an item, and not all of it
pub record IsUnfinished {A : Type 0} (IsSpelled : A → List ℕ → Type 0) (bytes : List ℕ) : Type 0 where
  pub item : A
  pub missing : List ℕ
  pub whole : IsSpelled item (bytes ++ missing)
  pub not_all : missing ≢ []

-- the bytes end inside an item
pub record EndsInside {A : Type 0} (IsSpelled : A → List ℕ → Type 0) (bytes : List ℕ) : Type 0 where
  pub begun : bytes ≢ []
  pub unfinished : IsUnfinished IsSpelled bytes

-- the bytes are whole items, and from this place on they end inside one
pub record BreaksAt {A : Type 0} (IsSpelled : A → List ℕ → Type 0) (bytes : List ℕ) (place : ℕ) : Type 0 where
  pub items : List A
  pub front : List ℕ
  pub rest : List ℕ
  pub joined : bytes ≡ front ++ rest
  pub spelled : Joined IsSpelled items front
  pub inside : EndsInside IsSpelled rest
  pub place_is : place ≡ length front
