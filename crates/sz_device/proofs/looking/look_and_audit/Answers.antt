use Rattle.std.proofs.Common.{refl, subst, List, ℕ, Option}
use Rattle.std.proofs.lemmas.Result.{err_from_is_err_and}
use Rattle.sz_audit.specs.Audit.{Audits}
use Rattle.sz_disk.proofs.Moments.{quiet-none}
use Rattle.sz_device.proofs.Reading.{of_device, refused}
use Rattle.sz_device.proofs.Refusing.{same-blame, unblamed}
use Rattle.sz_device.proofs.looking.look_and_audit.Goals as goal

pub returns-in_err-check_size : goal.returns-in_err-check_size
returns-in_err-check_size g c =
    let p = err_from_is_err_and c.from_residual.result c.from_residual.ensures.1 in
    rw (p.1, p.2, c.in_err-check_size.ensures.told) (record {
      may = (refl, c.in_err-check_size.ensures.refused);
      still = (quiet-none (g.D.Disk.seen c.args.disk.now)).still;
      reads = λ stood. refl;
      cause = unblamed (g.D.Disk.seen c.args.disk.now).faults;
    })

pub returns-in-Ok : goal.returns-in-Ok
returns-in-Ok g c =
    let old = g.D.Disk.seen c.args.disk.now in
    let new = g.D.Disk.seen c.audit.new.disk in
    let found = c.in-Ok.ensures.found in
    let held = found.0 in
    let same = c.in-Ok.ensures.reads refl in
    let audits = subst (λ (reads : Option (List ℕ)). Audits reads held.device c.in-Ok.audit) same found.2 in
    record {
      may = (
        c.in_ok-check_size.ensures.ok,
        of_device c.payloads_have_one_reading.ensures.one_device old new held (λ device. Audits old.reads device c.in-Ok.audit)
            (g.met.D.Disk.lawful c.audit.new.disk) found.1 same audits,
      );
      still = c.in-Ok.ensures.still;
      reads = λ stood. same;
      cause = c.in-Ok.ensures.cause;
    }

pub returns-in-Err : goal.returns-in-Err
returns-in-Err g c = record {
  may =
      rw c.failure_from.ensures
      (refused (g.D.Disk.seen c.args.disk.now) (g.D.Disk.seen c.audit.new.disk) c.in-Err.fault c.in_ok-check_size.ensures.ok
      c.in-Err.ensures.refused);
  still = c.in-Err.ensures.still;
  reads = λ stood. c.in-Err.ensures.reads (rw (c.failure_from.ensures, same-blame c.in-Err.fault) at stood);
  cause = rw (c.failure_from.ensures, same-blame c.in-Err.fault) c.in-Err.ensures.cause;
}
