use Rattle.std.proofs.Common.{refl, sym, ◌∙◌}
use Rattle.sz_cms.specs.MessageFault.{known_fault}
use Rattle.sz_cms.specs.Places.{known_at, value_in}
use Rattle.sz_cms.proofs.Readings.{both_stand, exit_all, one_missing}
use Rattle.sz_cms.proofs.attributes.read_attributes.Goals as goal

pub returns-in_err-known-clause-fault : goal.returns-in_err-known-clause-fault
unfolding known_fault
returns-in_err-known-clause-fault c =
    exit_all _ _ c.in_err-known.field-0.0 c.from_residual.ensures.1 (λ spot is. rw (← c.parts_of.ensures spot is, c.in_err-known.ensures.fault) refl)

pub returns-in-Some-clause-ok : goal.returns-in-Some-clause-ok
unfolding known_fault
returns-in-Some-clause-ok c =
    λ spot is.
    let both = both_stand _ c.in_ok-known.known _ _ c.in_ok-known.ensures.known c.in-Some.ensures.some.0 c.in-Some.ensures.some.1 in
    rw (← c.parts_of.ensures spot is, c.in_ok-known.ensures.ok, both) refl

pub returns-in-Some-clause-attributes : goal.returns-in-Some-clause-attributes
unfolding known_at value_in
returns-in-Some-clause-attributes c =
    λ spot is. rw (
      is.whole,
      ← c.parts_of.ensures spot is,
      sym c.in_ok-known.ensures.known.content_type ∙ c.in-Some.ensures.some.0,
      sym c.in_ok-known.ensures.known.digest ∙ c.in-Some.ensures.some.1,
    ) refl

pub returns-in-None-clause-fault : goal.returns-in-None-clause-fault
unfolding known_fault
returns-in-None-clause-fault c =
    λ spot is.
    let missing = one_missing _ c.in_ok-known.known c.in_ok-known.ensures.known c.in-None.ensures.none in
    rw (← c.parts_of.ensures spot is, c.in_ok-known.ensures.ok, missing, is.ends) refl
