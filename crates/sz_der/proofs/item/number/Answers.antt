use Rattle.std.proofs.Common.{arith}
use Rattle.sz_der.proofs.Numbers.{number_of_more, step_fits, step_below}
use Rattle.sz_der.proofs.item.number.Goals as goal

pub overflow_mul-number : goal.overflow_mul-number
overflow_mul-number c =
    omega (arith, step_fits c.loop-octet.octet-index c.loop-octet.number (omega arith) c.loop-octet.invariant.fits)

pub loop-octet-preserved : goal.loop-octet-preserved
loop-octet-preserved c = record {
  read = omega (arith, number_of_more c.args.octets.now c.loop-octet.octet-index (omega arith), c.from.ensures, c.loop-octet.invariant.read);
  fits = step_below c.loop-octet.octet-index c.loop-octet.number c.from.result
      (omega (arith, c.from.ensures, c.type_inv.octets c.loop-octet.octet-index)) c.loop-octet.invariant.fits;
}
