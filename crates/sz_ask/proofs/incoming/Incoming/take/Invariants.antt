use Rattle.std.proofs.Common.{◌≤◌, ◌-◌, ℕ, List, ◌++◌, length, take}
use Rattle.sz_ask.specs.Coming.{IsComing}
use Rattle.sz_ask.proofs.incoming.Incoming.take.Given as goal

-- so much of the piece was taken
abbrev pub invariant-loop-at : goal.invariant-loop-at
invariant-loop-at l = record {
  within : l.at ≤ length l.piece;
  coming : (bytes : List ℕ) → IsComing l.fn.self bytes → IsComing l.self (bytes ++ take l.at l.piece);
}

abbrev pub decreases-loop-at : goal.decreases-loop-at
decreases-loop-at l = length l.piece - l.at
