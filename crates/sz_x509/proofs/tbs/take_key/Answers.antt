use Rattle.std.proofs.Common.{Some, ap, refl, sym, ◌∙◌}
use Rattle.sz_der.specs.Spots.{after, Spot, spot_of}
use Rattle.sz_der.proofs.Steps.{exit}
use Rattle.sz_x509.specs.CertFault.{Fault, key_fault, key_in, octets_at}
use Rattle.sz_x509.specs.CertPlaces.{key_at}
use Rattle.sz_x509.proofs.tbs.take_key.Goals as goal

pub returns-in_err-parts-clause-fault : goal.returns-in_err-parts-clause-fault
unfolding key_fault
returns-in_err-parts-clause-fault c =
    exit _ _ c.in_err-parts.field-0.0 c.from_residual.ensures.1 (rw c.in_err-parts.ensures.fault refl)

pub returns-in_err-take_algorithm-clause-fault : goal.returns-in_err-take_algorithm-clause-fault
unfolding key_fault
returns-in_err-take_algorithm-clause-fault c =
    exit _ _ c.in_err-take_algorithm.field-0.0 c.from_residual-in_err-take_algorithm.ensures.1
    (rw (c.in_ok-parts.ensures.ok, ← c.in_ok-parts.ensures.inside, c.in_err-take_algorithm.ensures.fault) refl)

pub returns-in_err-bits-clause-fault : goal.returns-in_err-bits-clause-fault
unfolding key_fault
returns-in_err-bits-clause-fault c =
    exit _ _ c.in_err-bits.field-0.0 c.from_residual-in_err-bits.ensures.1
    (rw (
      c.in_ok-parts.ensures.ok,
      ← c.in_ok-parts.ensures.inside,
      c.in_ok-take_algorithm.ensures.ok,
      ← c.in_ok-take_algorithm.ensures.next,
      c.in_err-bits.ensures.fault,
    ) refl)

pub returns-in_default-clause-fault : goal.returns-in_default-clause-fault
unfolding key_fault
returns-in_default-clause-fault c =
    rw (
      c.in_ok-parts.ensures.ok,
      ← c.in_ok-parts.ensures.inside,
      c.in_ok-take_algorithm.ensures.ok,
      ← c.in_ok-take_algorithm.ensures.next,
      c.in_ok-bits.ensures.ok,
      ← c.in_ok-bits.ensures.octets,
      c.in_default.ensures.none,
    ) (ap (λ (x : Fault). Some x) (sym (c.part_fault.ensures (spot_of c.take_algorithm.new.reader) c.in_ok-bits.ensures.item)))

pub returns-in_err-expect_end-clause-fault : goal.returns-in_err-expect_end-clause-fault
unfolding key_fault
returns-in_err-expect_end-clause-fault c =
    exit _ _ c.in_err-expect_end.field-0.0 c.from_residual-in_err-expect_end.ensures.1
    (rw (
      c.in_ok-parts.ensures.ok,
      ← c.in_ok-parts.ensures.inside,
      c.in_ok-take_algorithm.ensures.ok,
      ← c.in_ok-take_algorithm.ensures.next,
      c.in_ok-bits.ensures.ok,
      ← c.in_ok-bits.ensures.octets,
      c.in-Some.ensures.some.0,
      ← c.in_ok-bits.ensures.next,
      c.in_err-expect_end.ensures.fault,
    ) refl)

pub returns-clause-ok : goal.returns-clause-ok
unfolding key_fault
returns-clause-ok c =
    rw (
      c.in_ok-parts.ensures.ok,
      ← c.in_ok-parts.ensures.inside,
      c.in_ok-take_algorithm.ensures.ok,
      ← c.in_ok-take_algorithm.ensures.next,
      c.in_ok-bits.ensures.ok,
      ← c.in_ok-bits.ensures.octets,
      c.in-Some.ensures.some.0,
      ← c.in_ok-bits.ensures.next,
      c.in_ok-expect_end.ensures.ok,
    ) refl

pub returns-clause-key : goal.returns-clause-key
unfolding key_at
returns-clause-key c =
    c.in-Some.ensures.some.1 ∙ ap key_in c.in_ok-bits.ensures.octets
    ∙ ap (λ (x : Spot). key_in (octets_at x)) (c.in_ok-take_algorithm.ensures.next ∙ ap after c.in_ok-parts.ensures.inside)
