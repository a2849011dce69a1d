-- Items one after another, in a list that was written or at places of the bytes.
use Rattle.std.specs.Prelude.{◌≡◌, ℕ, ◌+◌, List, [], ◌∷◌, ◌++◌, length, pos}
use Rattle.sz_der.specs.Der.{Der, StandsAt, IsLength}
use Rattle.sz_der.specs.Integer.{IsIntegerOf}
use Rattle.sz_der.specs.Tags.{integer_tag}

-- the new bytes are the old ones with the octets of a length more
pub record AppendsSize (old new : List ℕ) (size : ℕ) : Type 0 where
  pub octets : List ℕ
  pub is_size : IsLength octets size
  pub appended : new ≡ old ++ octets

-- the new bytes are the old ones with one item more, with this tag and content
pub record AppendsItem (old new : List ℕ) (tag : ℕ) (content : List ℕ) : Type 0 where
  pub whole : List ℕ
  pub is_item : Der tag content whole
  pub appended : new ≡ old ++ whole

-- the new bytes are the old ones with the INTEGER of this value more
pub record AppendsInteger (old new : List ℕ) (value : ℕ) : Type 0 where
  pub content : List ℕ
  pub is_integer : IsIntegerOf (pos value) content
  pub item : AppendsItem old new integer_tag content

-- one after another, each written after those before it
abbrev pub AppendsItems : List ℕ → List ℕ → List (ℕ × List ℕ) → Type 0
AppendsItems old new [] = new ≡ old
AppendsItems old new (item ∷ items) =
    (between : List ℕ) × AppendsItem old between item.0 item.1 × AppendsItems between new items

-- from the place on the bytes hold these items and nothing else
abbrev pub ReadAs : List ℕ → ℕ → List (ℕ × List ℕ) → Type 0
ReadAs bytes place [] = place ≡ length bytes
ReadAs bytes place (item ∷ items) =
    (whole : List ℕ) × StandsAt bytes place item.0 item.1 whole × ReadAs bytes (place + length whole) items

-- the bytes are this item, and then the rest
pub record BeginsWith (bytes : List ℕ) (tag : ℕ) (content whole rest : List ℕ) : Type 0 where
  pub is_item : Der tag content whole
  pub joined : bytes ≡ whole ++ rest

-- the bytes are the strings of these items, joined
abbrev pub AreItems : List ℕ → List (ℕ × List ℕ) → Type 0
AreItems bytes [] = bytes ≡ []
AreItems bytes (item ∷ items) =
    (whole : List ℕ) × (rest : List ℕ) × BeginsWith bytes item.0 item.1 whole rest × AreItems rest items
