use Rattle.std.proofs.Common.{◌≡◌, ◌-◌, ◌*◌, drop}
use Rattle.sz_lms.specs.Bits.{values_of}
use Rattle.sz_lms.specs.Lms.{climb}
use Rattle.sz_lms.proofs.path.climb.Given as goal

-- what is left of the way leads to the same root
abbrev pub invariant-loop-i : goal.invariant-loop-i
invariant-loop-i l =
    climb l.id l.r l.node (values_of (l.height - l.i) (drop (32 * l.i) l.path)) ≡ climb l.id l.fn.r l.fn.node (values_of l.height l.path)
