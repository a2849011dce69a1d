-- A head that is read as its bytes come, and what it answers of a piece.
use Rattle.std.specs.Prelude.{◌≡◌, ◌≢◌, ◌≤◌, ℕ, List, ◌++◌, length, take, Result, Ok, Err}
use Rattle.sz_http.specs.declared.kind.Kind.{Kind}
use Rattle.sz_http.specs.declared.head_place.Place.TheVariants.{Nowhere}
use Rattle.sz_http.specs.declared.head_reading.HeadReading.{HeadReading}
use Rattle.sz_http.specs.declared.progress.NoHead.{NoHead}
use Rattle.sz_http.specs.declared.progress.Progress.{Progress}
use Rattle.sz_http.specs.declared.progress.Progress.TheVariants.{More, Whole}
use Rattle.sz_http.specs.Head.{IsHead, IsUnfinished, NeverHasHead}
use Rattle.sz_http.specs.HeadPlace.{Stands}

-- the reading is one of a head of this kind and has taken these bytes, which it keeps as long as they can become one
pub record Takes (reading : HeadReading) (kind : Kind) (bytes : List ℕ) : Type 0 where
  pub of_kind : reading.kind ≡ kind
  pub stands : Stands kind bytes reading.place
  pub kept : reading.place ≢ Nowhere → reading.bytes.items ≡ bytes

-- no head can come of what the reading has taken
abbrev pub IsGivenUp : HeadReading → Type 0
IsGivenUp reading = reading.place ≡ Nowhere

-- more is needed: the whole piece was taken, and a head can still come
pub record IsMore (kind : Kind) (bytes : List ℕ) (reading : HeadReading) : Type 0 where
  pub taken : Takes reading kind bytes
  pub unfinished : IsUnfinished kind bytes

-- the head is whole: it ends with so many bytes of the piece
pub record IsWhole (kind : Kind) (before piece : List ℕ) (used : ℕ) (reading : HeadReading) : Type 0 where
  pub within : used ≤ length piece
  pub taken : Takes reading kind (before ++ take used piece)
  pub head : IsHead kind (before ++ take used piece)

-- no head can come of the bytes
pub record IsRefused (kind : Kind) (bytes : List ℕ) (reading : HeadReading) : Type 0 where
  pub taken : Takes reading kind bytes
  pub never : NeverHasHead kind bytes

-- what the answer on a piece means, after these bytes
abbrev pub Answers : Result Progress NoHead → Kind → List ℕ → List ℕ → HeadReading → Type 0
Answers (Ok More) kind before piece reading = IsMore kind (before ++ piece) reading
Answers (Ok (Whole used)) kind before piece reading = IsWhole kind before piece used reading
Answers (Err none) kind before piece reading = IsRefused kind (before ++ piece) reading
