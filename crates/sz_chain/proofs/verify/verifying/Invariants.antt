use Rattle.std.proofs.Common.{◌≡◌, true}
use Rattle.sz_cms.specs.View.{covered_bytes}
use Rattle.sz_lms.specs.Hss.{HssOk}
use Rattle.sz_chain.specs.Sets.{AreFirst, has}
use Rattle.sz_chain.proofs.verify.verifying.Given as goal

-- of the places so far those are in the set that are wanted and under whose keys the signature verifies
abbrev pub invariant-loop-at : goal.invariant-loop-at
invariant-loop-at l =
    AreFirst l.at l.places (λ at place. (has l.wanted at ≡ true) × HssOk place.cert.key.now (covered_bytes l.covered) l.signature) l.verified
