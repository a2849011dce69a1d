-- What a reader of items takes from the bytes that are left to it, which end before a place that stays.
use Rattle.std.specs.Prelude.{◌≡◌, ◌-◌, ℕ, List, length, Some}
use Rattle.sz_der.specs.Fault.{fault_of}
use Rattle.sz_der.specs.Items.{BeginsWith}
use Rattle.sz_der.specs.declared.fault.DerFault.{DerFault}

-- the place of the first byte that is left
abbrev pub place_of : ℕ → List ℕ → ℕ
place_of end left = end - length left

-- the item at the front is taken, and the bytes after it are left
pub record TakesItem (end : ℕ) (old new : List ℕ) (tag : ℕ) (content whole : List ℕ) (after : ℕ) : Type 0 where
  pub item : BeginsWith old tag content whole new
  pub ends : after ≡ place_of end new

-- the fault of an item at the front of what is left, at its place
pub record IsFrontFault (end : ℕ) (left : List ℕ) (fault : DerFault) : Type 0 where
  pub kind : fault_of left ≡ Some fault.kind
  pub place : fault.place ≡ place_of end left
