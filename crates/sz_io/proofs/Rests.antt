-- What is left of a list behind the elements that were taken off its front.
use Rattle.std.proofs.Common.{◌≡◌, ℕ, ◌≤◌, List, [], length, drop, ap, arith}
use Rattle.std.proofs.lemmas.List.{length-drop}

-- nothing is left where all were taken, and only there
pub drop-none : {X : Type 0} → (xs : List X) (n : ℕ) → n ≤ length xs → drop n xs ≡ [] → n ≡ length xs
drop-none xs n within none = omega (arith, length-drop n xs, ap length none)
