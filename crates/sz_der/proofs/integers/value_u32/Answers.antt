use Rattle.std.proofs.Common.{arith}
use Rattle.sz_der.proofs.Octets.{AreOctets_from_places}
use Rattle.sz_der.proofs.Values.{integer_of-negative, number_of-long, number-short, one_number}
use Rattle.sz_der.proofs.integers.value_u32.Goals as goal

pub returns-then-octets-ge128-clause-none : goal.returns-then-octets-ge128-clause-none
returns-then-octets-ge128-clause-none c = λ n below same.
    integer_of-negative c.args.octets.now (AreOctets_from_places c.args.octets.now (λ i. omega (arith, c.type_inv.octets i))) (omega arith) n same

pub returns-then-magnitude-gt4-clause-none : goal.returns-then-magnitude-gt4-clause-none
returns-then-magnitude-gt4-clause-none c = λ n below same.
    let magnitude = c.magnitude_of-magnitude.result.now in
    let is = one_number c.args.octets.now n (omega arith) same in
    let long = number_of-long c.magnitude_of-magnitude.result.now (c.magnitude_of-magnitude.ensures.lead (omega arith)) (omega arith) in
    omega (arith, c.magnitude_of-magnitude.ensures.number)

pub overflow_cast-result : goal.overflow_cast-result
overflow_cast-result c = record { fits = number-short c.number.result _ c.number.ensures.bound c.if-magnitude-gt4.false }
