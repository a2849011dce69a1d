-- Writes of a writer, one after another.
use Rattle.std.proofs.Common.{ℕ, ◌+◌, ◌-◌, List, length, take, drop, Option, sym, subst}
use Rattle.std.proofs.Math.Seq.{take-add}
use Rattle.std.proofs.lemmas.List.{take_rest}
use Rattle.std.proofs.KnownBytes.{Appends-trans}
use Rattle.std.specs.Io.KnownBytes.{Appends}

-- what one write took of the rest stands behind what was done before
pub took_more : (a b c : Option (List ℕ)) (done count : ℕ) (bytes : List ℕ)
    → Appends a b (take done bytes) → Appends b c (take count (take (length bytes - done) (drop done bytes)))
    → Appends a c (take (done + count) bytes)
took_more a b c done count bytes first second =
    let next : Appends b c (take count (drop done bytes)) = rw (take_rest bytes done) at second in
    subst (Appends a c) (sym (take-add done count bytes)) (Appends-trans a b c _ _ first next)
