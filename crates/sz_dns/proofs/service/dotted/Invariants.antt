use Rattle.std.proofs.Common.{◌≡◌, ◌++◌, ◌∷◌, take, List, ℕ}
use Rattle.std.specs.List.{flat_map}
use Rattle.sz_dns.proofs.service.dotted.Given as goal

abbrev pub invariant-loop-label : goal.invariant-loop-label
invariant-loop-label l =
    (first : List ℕ) × (l.labels ≡ first ∷ l.more)
    × (l.text ≡ first ++ flat_map (λ (more : List ℕ). 46 ∷ more) (take l.label-index l.more))
