use Rattle.std.proofs.Common.{ℕ, ◌-◌, ◌≤◌, List, ◌++◌, length, take}
use Rattle.sz_http.specs.ChunkReading.{Takes}
use Rattle.sz_http.proofs.chunked_body.ChunkedBody.take_framing.Given as goal

-- a front of the piece was taken, with none of the content in it
abbrev pub invariant-loop-used : goal.invariant-loop-used
invariant-loop-used l = record {
  within : l.used ≤ length l.piece;
  taken : (limit : ℕ) (before content : List ℕ) → Takes l.fn.self limit before content
      → Takes l.self limit (before ++ take l.used l.piece) content;
}

abbrev pub decreases-loop-used : goal.decreases-loop-used
decreases-loop-used l = length l.piece - l.used
