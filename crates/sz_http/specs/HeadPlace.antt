-- What each place of a head stands for.
use Rattle.std.specs.Prelude.{◌≡◌, ◌≢◌, ◌↔◌, ℕ, ◌⊎◌, ◌+◌, ◌-◌, ◌<◌, ◌≤◌, IsUtf8, Bool, true, false, List, [], ◌∷◌, ◌++◌, length, drop, ⊤}
use Rattle.httparse.specs.Ascii.{carriage_return, line_feed, space}
use Rattle.httparse.specs.Grammar.{LineEnd, print_blank, IsToken, EndsInTarget}
use Rattle.sz_http.specs.declared.kind.Kind.{Kind}
use Rattle.sz_http.specs.declared.kind.Kind.TheVariants.{Request, Reply, Trailer}
use Rattle.sz_http.specs.declared.head_place.Place.{Place}
use Rattle.sz_http.specs.declared.head_place.Place.TheVariants.{EmptyLines, EmptyLineEnd, Method, Target, Version, RequestLineEnd, StatusSpace, Code, Value, LineFeed, Line, Name, LastLineFeed, Whole, Nowhere}
use Rattle.sz_http.specs.Head.{most_fields, most_bytes, BeginsWithHead}
use Rattle.sz_http.specs.Left.{Form, Nothing, Never, Due, Ends, ValueLeft, Blank, TargetLeft, Lines, NameLeft, DigitsLeft, version_name, MinorLeft, MethodLeft, StartLine}

-- the rest of a target that began at this place of the bytes
pub record TargetFrom (kind : Kind) (start : ℕ) (bytes text rest : List ℕ) : Type 0 where
  pub inside : start ≤ length bytes
  pub left : TargetLeft (drop start bytes) (Due version_name (MinorLeft kind)) text rest

-- what is left of a head of this kind at a place, after these bytes
abbrev pub Left : Kind → List ℕ → Place → Form
Left kind bytes EmptyLines = Blank (StartLine kind)
Left kind bytes EmptyLineEnd = Due (line_feed ∷ []) (Blank (StartLine kind))
Left kind bytes Method = MethodLeft kind
Left kind bytes (Target start) = TargetFrom kind start bytes
Left kind bytes (Version count) = Due (drop count version_name) (MinorLeft kind)
Left kind bytes RequestLineEnd = Ends (Lines most_fields)
Left kind bytes StatusSpace = Due (space ∷ []) (DigitsLeft 3)
Left kind bytes (Code count) = DigitsLeft count
Left kind bytes (Value room) = ValueLeft (Lines room)
Left kind bytes (LineFeed room) = Due (line_feed ∷ []) (Lines room)
Left kind bytes (Line room) = Lines room
Left kind bytes (Name room) = NameLeft room
Left kind bytes LastLineFeed = Due (line_feed ∷ []) Nothing
Left kind bytes Whole = Nothing
Left kind bytes Nowhere = Never

-- where one more byte leads from a form, after which these bytes have come
pub record Leads (kind : Kind) (bytes : List ℕ) (Before : Form) (byte : ℕ) (place : Place) : Type 0 where
  pub same : (more rest : List ℕ) → Before (byte ∷ more) rest ↔ Left kind bytes place more rest

-- the fewest bytes that the version and what follows it can have
abbrev pub least_after_version : Kind → ℕ
least_after_version Reply = 6
least_after_version Request = 2
least_after_version Trailer = 2

-- the fewest bytes that can make the head whole
abbrev pub least_left : Kind → Place → ℕ
least_left kind EmptyLines = 14
least_left kind EmptyLineEnd = 15
least_left kind Method = 11 + least_after_version kind
least_left kind (Target start) = 9 + least_after_version kind
least_left kind (Version count) = (7 - count) + 1 + least_after_version kind
least_left kind RequestLineEnd = 2
least_left kind StatusSpace = 6
least_left kind (Code count) = count + 2
least_left kind (Value room) = 2
least_left kind (LineFeed room) = 2
least_left kind (Line room) = 1
least_left kind (Name room) = 3
least_left kind LastLineFeed = 1
least_left kind Whole = 0
least_left kind Nowhere = 0

-- what has come up to a place in front of the end of a target
abbrev pub Came : Kind → List ℕ → Place → Type 0
Came kind bytes EmptyLines = (kind ≢ Trailer) × ((ends : List LineEnd) × (bytes ≡ print_blank ends))
Came kind bytes EmptyLineEnd =
    (kind ≢ Trailer) × ((ends : List LineEnd) × (bytes ≡ print_blank ends ++ carriage_return ∷ []))
Came kind bytes Method =
    (kind ≡ Request)
    × ((ends : List LineEnd) × (method : List ℕ) × IsToken method × (bytes ≡ print_blank ends ++ method))
Came kind bytes (Target start) = (kind ≡ Request) × EndsInTarget bytes
Came kind bytes _ = ⊤

-- whether a byte can follow at the place
abbrev pub is_open : Place → Bool
is_open Whole = false
is_open Nowhere = false
is_open _ = true

-- after these bytes a head of this kind is at the place: what makes the bytes a head is what is left there
pub record Stands (kind : Kind) (bytes : List ℕ) (place : Place) : Type 0 where
  pub left : (more rest : List ℕ) → BeginsWithHead kind (bytes ++ more) rest
      ↔ (Left kind bytes place more rest × (length (bytes ++ more) ≤ most_bytes + length rest))
  pub fits : place ≢ Nowhere → length bytes + least_left kind place ≤ most_bytes
  pub came : Came kind bytes place

-- the byte is the one that is due and leads on, or no head can come
abbrev pub IsDueOr : ℕ → ℕ → Place → Place → Type 0
IsDueOr byte due next place = ((byte ≡ due) × (place ≡ next)) ⊎ (place ≡ Nowhere)

-- some bytes, and a text
abbrev pub IsWholeTarget : List ℕ → Type 0
IsWholeTarget bytes = (0 < length bytes) × IsUtf8 bytes
