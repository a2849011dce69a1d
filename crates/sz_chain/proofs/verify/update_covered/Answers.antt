use Rattle.std.proofs.Common.{◌++◌, ◌∷◌, [], ℕ, List, Option, sym, subst, append_assoc}
use Rattle.sz_cms.specs.View.{bytes_after}
use Rattle.sz_lms.specs.Check.{Checks}
use Rattle.sz_chain.proofs.verify.update_covered.Goals as goal

pub returns-in-None : goal.returns-in-None
returns-in-None c = λ public signature message checks.
    let rest = c.args.covered.now.rest.now in
    subst (λ (o : Option ℕ). Checks c.update.new.self public signature (message ++ bytes_after o rest)) (sym c.in-None.is)
    (c.update.ensures public signature message checks)

pub returns-in-Some : goal.returns-in-Some
returns-in-Some c = λ public signature message checks.
    let rest = c.args.covered.now.rest.now in
    let first = c.in-Some.first in
    let one = c.update-in-Some.ensures public signature message checks in
    let both = c.update-in-Some-2.ensures public signature (message ++ first ∷ []) one in
    subst (λ (o : Option ℕ). Checks c.update-in-Some-2.new.self public signature (message ++ bytes_after o rest)) (sym c.in-Some.is)
    (subst (λ (m : List ℕ). Checks c.update-in-Some-2.new.self public signature m) (append_assoc message (first ∷ []) rest) both)
