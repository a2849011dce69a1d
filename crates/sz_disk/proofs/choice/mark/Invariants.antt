use Rattle.std.proofs.Common.{◌≡◌, ℕ, false, ◌||◌, ◌&&◌, get_or, leb, ltb}
use Rattle.sz_disk.proofs.choice.mark.Given as goal

-- the places from `at` to `place` are marked
abbrev pub invariant-loop-place : goal.invariant-loop-place
invariant-loop-place l = (k : ℕ) → get_or l.marks k false ≡ (get_or l.initial.marks k false || (leb l.at k && ltb k l.place))
