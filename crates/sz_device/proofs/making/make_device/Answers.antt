use Rattle.std.proofs.Common.{refl, inl}
use Rattle.std.proofs.lemmas.Result.{err_from_is_err_and}
use Rattle.sz_device.proofs.Refusing.{refused, same-blame, still-self, unblamed, untouched}
use Rattle.sz_device.proofs.making.make_device.Goals as goal

pub returns-in_err-check_size : goal.returns-in_err-check_size
returns-in_err-check_size g c =
    let p = err_from_is_err_and c.from_residual.result c.from_residual.ensures.1 in
    rw (p.1, p.2, c.in_err-check_size.ensures.told) (record {
      may = (refl, c.in_err-check_size.ensures.refused, refl);
      free = inl (still-self (g.D.Disk.seen c.args.disk.now));
      any_moment = untouched (g.D.Disk.seen c.args.disk.now) c.args.identity (g.met.D.Disk.lawful c.args.disk.now);
      cause = unblamed (g.D.Disk.seen c.args.disk.now).faults;
    })

pub returns-in-Ok : goal.returns-in-Ok
returns-in-Ok g c = record {
  may = (c.serial_of.ensures, record { layout = c.in_ok-check_size.ensures.ok; fits = c.in-Ok.ensures.fits }, c.in-Ok.ensures.made);
  free = c.init.ensures.free;
  any_moment = c.in-Ok.ensures.any_moment;
  cause = c.in-Ok.ensures.cause;
}

pub returns : goal.returns
returns g c = record {
  may =
      rw c.failure_from.ensures
      (refused g.D.Disk.seen c.args.identity c.args.disk.now c.init.new.disk c.in_ok-check_size.ensures.ok c.in-Err.fault
      c.in-Err.ensures.made c.in-Err.ensures.fits c.in-Err.ensures.untouched);
  free = c.init.ensures.free;
  any_moment = c.in-Err.ensures.any_moment;
  cause = rw (c.failure_from.ensures, same-blame c.in-Err.fault) c.in-Err.ensures.cause;
}
