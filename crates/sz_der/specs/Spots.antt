-- Parts of a format at their places, and the rules that they break: the words of a table of faults, for any kinds.
use Rattle.std.specs.Prelude.{◌≡◌, ℕ, ◌+◌, ◌-◌, ◌&&◌, ◌==◌, not, if◌then◌else◌, Bool, List, [], ◌∷◌, ◌++◌, length, take, drop, slice_index, Option, Some, None, is_some, zero, suc}
use Rattle.sz_der.specs.Fault.{fault_of, header_size, content_size}
use Rattle.sz_der.specs.Reader.{place_of}
use Rattle.sz_der.specs.Integer.{is_integer}
use Rattle.sz_der.specs.declared.item.Item.{Item}
use Rattle.sz_der.specs.declared.parts.PartFault.{PartFault}
use Rattle.sz_der.specs.declared.reader.DerReader.{DerReader}

-- The bytes that are left of what holds an item, from the item's tag on, and the place of the input where they end.
pub record Spot : Type 0 where
  pub left : List ℕ
  pub end : ℕ

-- where the bytes begin
unfoldable pub front : List ℕ → Spot
front bytes = record { left = bytes; end = length bytes }

-- where a reader of items stands
unfoldable pub spot_of : DerReader → Spot
spot_of reader = record { left = reader.left.now; end = reader.end }

-- the place of the input, counted from 0
unfoldable pub place_at : Spot → ℕ
place_at spot = place_of spot.end spot.left

-- ---- the item that stands there, if one does

-- how many bytes it takes
abbrev pub size_at : Spot → ℕ
size_at spot = header_size spot.left + content_size spot.left

unfoldable pub tag_at : Spot → ℕ
tag_at spot = slice_index spot.left 0

unfoldable pub content_at : Spot → List ℕ
content_at spot = take (content_size spot.left) (drop (header_size spot.left) spot.left)

unfoldable pub whole_at : Spot → List ℕ
whole_at spot = take (size_at spot) spot.left

-- right after it
unfoldable pub after : Spot → Spot
after spot = record { left = drop (size_at spot) spot.left; end = spot.end }

-- where its content begins
unfoldable pub inside : Spot → Spot
inside spot = record { left = content_at spot; end = place_at (after spot) }

unfoldable pub is_at_end : Spot → Bool
is_at_end spot = length spot.left == 0

-- the item, as a reader of items gives it
pub record IsItemAt (spot : Spot) (item : Item) : Type 0 where
  pub tag : item.tag ≡ tag_at spot
  pub content : item.content.now ≡ content_at spot
  pub whole : item.whole.now ≡ whole_at spot
  pub ends : item.after ≡ place_at (after spot)
  pub begins : item.after - length item.whole.now ≡ place_at spot

-- an item with this tag is next, for one that need not be there
unfoldable pub is_next : ℕ → Spot → Bool
is_next tag spot = not (is_at_end spot) && tag_at spot == tag

-- after the next item, where it has this tag
unfoldable pub after_optional : ℕ → Spot → Spot
after_optional tag spot = if is_next tag spot then after spot else spot

-- the spots of the items one after another, at most so many, until nothing is left
unfoldable pub spots_upto : ℕ → Spot → List Spot
spots_upto zero spot = []
spots_upto (suc n) spot = if is_at_end spot then [] else spot ∷ spots_upto n (after spot)

-- the spots of all items from there on: an item takes two bytes or more
abbrev pub spots_from : Spot → List Spot
spots_from spot = spots_upto (length spot.left) spot

-- strings one after another, each of what it is to be
abbrev pub AreEach : {A : Type 0} → (A → List ℕ → Type 0) → List A → List ℕ → Type 0
AreEach Is [] bytes = bytes ≡ []
AreEach Is (one ∷ others) bytes =
    (whole : List ℕ) × (rest : List ℕ) × Is one whole × (bytes ≡ whole ++ rest) × AreEach Is others rest

-- ---- rules, each with the kind of its fault

-- a fault that is answered: its kind and its place
abbrev pub at : {K : Type 0} → PartFault K → K × ℕ
at fault = (fault.kind, fault.place)

-- the first rule that is broken
abbrev pub or_later : {A : Type 0} → Option A → Option A → Option A
or_later (Some fault) later = Some fault
or_later None later = later

abbrev pub first_of : {A : Type 0} → List (Option A) → Option A
first_of [] = None
first_of (rule ∷ rules) = or_later rule (first_of rules)

-- the test holds of what has to stand there
abbrev pub rule : {K : Type 0} → Bool → K → Spot → Option (K × ℕ)
rule holds kind spot = if holds then None else Some (kind, place_at spot)

-- an item stands there
unfoldable pub no_item : {K : Type 0} → K → Spot → Option (K × ℕ)
no_item broken spot = rule (not (is_some (fault_of spot.left))) broken spot

-- an item with this tag stands there: one kind where none does, the other where it has another tag
unfoldable pub no_part : {K : Type 0} → K → K → ℕ → Spot → Option (K × ℕ)
no_part broken other tag spot = first_of (no_item broken spot ∷ rule (tag_at spot == tag) other spot ∷ [])

-- an INTEGER stands there (X.690 section 8.3): one kind where what does is no item or has another content, the other
-- where it has another tag
unfoldable pub no_integer : {K : Type 0} → K → K → Spot → Option (K × ℕ)
no_integer broken other spot =
    first_of (no_part broken other 2 spot ∷ rule (is_integer (content_at spot)) broken spot ∷ [])

-- nothing more stands there: one kind where what does is no item, the other where it is
unfoldable pub no_end : {K : Type 0} → K → K → Spot → Option (K × ℕ)
no_end broken other spot =
    if is_at_end spot then None else first_of (no_item broken spot ∷ Some (other, place_at spot) ∷ [])

-- where an item with this tag is next, these rules
abbrev pub if_next : {A : Type 0} → ℕ → Spot → List (Option A) → Option A
if_next tag spot rules = if is_next tag spot then first_of rules else None

-- where something is left, these rules
abbrev pub if_left : {A : Type 0} → Spot → List (Option A) → Option A
if_left spot rules = if is_at_end spot then None else first_of rules

-- the first fault of the items at these spots
unfoldable pub each : {A : Type 0} → (Spot → Option A) → List Spot → Option A
each fault [] = None
each fault (spot ∷ spots) = first_of (fault spot ∷ each fault spots ∷ [])
