use Rattle.std.proofs.Common.{◌≡◌, ℕ, ◌-◌, ◌≤◌, List, ◌++◌, length, take}
use Rattle.sz_http.specs.declared.kind.Kind.{Kind}
use Rattle.sz_http.specs.declared.head_place.Place.TheVariants.{Nowhere}
use Rattle.sz_http.specs.HeadReading.{Takes}
use Rattle.sz_http.proofs.head_reading.HeadReading.take_front.Given as goal

-- a front of the piece was taken
abbrev pub invariant-loop-used : goal.invariant-loop-used
invariant-loop-used l = record {
  within : l.used ≤ length l.piece;
  taken : (kind : Kind) (before : List ℕ) → Takes l.fn.self kind before → Takes l.self kind (before ++ take l.used l.piece);
  shut : l.fn.self.place ≡ Nowhere → l.self.place ≡ Nowhere;
}

abbrev pub decreases-loop-used : goal.decreases-loop-used
decreases-loop-used l = length l.piece - l.used
