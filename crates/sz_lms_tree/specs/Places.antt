-- Where the nodes of a tree stand.
use Rattle.std.specs.Prelude.{ℕ, ◌-◌, ◌*◌, ◌^◌, ◌<◌, ◌≤◌}

-- In a tree of this height node r has n more levels below it: the numbers of such nodes lie between two powers
-- of two.
pub record IsNodeAt (height n r : ℕ) : Type 0 where
  pub below : n ≤ height
  pub first : 2 ^ (height - n) ≤ r
  pub last : r < 2 * 2 ^ (height - n)
