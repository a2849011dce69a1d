use Rattle.std.proofs.Common.{ℕ, List, ◌++◌, length}
use Rattle.serde_json.specs.View.{items_view}
use Rattle.sz_evidence.specs.IdentityFile.{AreAnchors}
use Rattle.sz_evidence.proofs.identity.certificates.Given as goal

abbrev pub invariant-entries : goal.invariant-entries
invariant-entries l = record {
  read : (more : List (List ℕ)) → AreAnchors (items_view l.rest) more → AreAnchors (items_view l.fn.entries) (l.anchors ++ more);
  left : (all : List (List ℕ)) → AreAnchors (items_view l.fn.entries) all → (more : List (List ℕ)) × AreAnchors (items_view l.rest) more;
}

abbrev pub decreases-entries : goal.decreases-entries
decreases-entries l = length l.rest
