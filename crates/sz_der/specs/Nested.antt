-- Items within an item: its content as a part of the bytes that hold it.
use Rattle.std.specs.Prelude.{◌≡◌, ℕ, ◌+◌, ◌-◌, ◌≤◌, List, length, slice_range}

-- the part of the bytes that ends before this place
pub record EndsAt (bytes : List ℕ) (after : ℕ) (part : List ℕ) : Type 0 where
  pub fits : length part ≤ after
  pub within : after ≤ length bytes
  pub there : slice_range bytes (after - length part) after ≡ part

-- where an item at the place ends, and its content as the part before that end
pub record Extends (bytes : List ℕ) (place : ℕ) (content whole : List ℕ) (after : ℕ) : Type 0 where
  pub ends : after ≡ place + length whole
  pub holds : EndsAt bytes after content
