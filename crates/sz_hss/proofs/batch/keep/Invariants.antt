use Rattle.std.proofs.Common.{◌≡◌, ℕ, List, ◌++◌, map, reverse, Ok, vec_len}
use Rattle.sz_hss.proofs.batch.keep.Given as goal

-- the signatures so far were put last, and the others are left in turn
abbrev pub invariant-loop-signed : goal.invariant-loop-signed
invariant-loop-signed l =
    (added : List (List ℕ)) × (l.signatures.items ≡ l.initial.signatures.items ++ added)
    × (map (λ signature. Ok signature) added ++ reverse l.rest.items ≡ l.fn.all.items)

abbrev pub decreases-loop-signed : goal.decreases-loop-signed
decreases-loop-signed l = vec_len l.rest
