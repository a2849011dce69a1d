use Rattle.std.proofs.Common.{◌≡◌, ℕ, List, Option, length}
use Rattle.serde_json.specs.View.{items_view}
use Rattle.sz_artifacts.specs.Image.{hash_fault, NamesHash}
use Rattle.sz_artifacts.proofs.conveyed.image.named_hash.Given as goal

abbrev pub invariant-entries : goal.invariant-entries
invariant-entries l = record {
  read : (hash : Option (List ℕ)) → NamesHash (items_view l.rest) hash → NamesHash (items_view l.fn.entries) hash;
  fault : hash_fault (items_view l.fn.entries) ≡ hash_fault (items_view l.rest);
}

abbrev pub decreases-entries : goal.decreases-entries
decreases-entries l = length l.rest
