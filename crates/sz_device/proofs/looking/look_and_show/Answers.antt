use Rattle.std.proofs.Common.{refl}
use Rattle.std.proofs.lemmas.Result.{err_from_is_err_and}
use Rattle.sz_disk.proofs.Moments.{quiet-none}
use Rattle.sz_device.proofs.Reading.{of_device, refused}
use Rattle.sz_device.proofs.Refusing.{same-blame, unblamed}
use Rattle.sz_device.proofs.looking.look_and_show.Goals as goal
use Rattle.sz_device.specs.ShowRan.{Shows}

pub returns-in_err-check_size : goal.returns-in_err-check_size
returns-in_err-check_size g c =
    let p = err_from_is_err_and c.from_residual.result c.from_residual.ensures.1 in
    rw (p.1, p.2, c.in_err-check_size.ensures.told) (record {
      may = (refl, c.in_err-check_size.ensures.refused);
      still = (quiet-none (g.D.Disk.seen c.args.disk.now)).still;
      reads = λ stood. refl;
      cause = unblamed (g.D.Disk.seen c.args.disk.now).faults;
    })

pub returns-in-Err : goal.returns-in-Err
returns-in-Err g c = record {
  may =
      rw c.failure_from.ensures
      (refused (g.D.Disk.seen c.args.disk.now) (g.D.Disk.seen c.attach.new.disk) c.in-Err.fault c.in_ok-check_size.ensures.ok
      c.in-Err.ensures.found);
  still = c.in-Err.ensures.still;
  reads = λ stood. (c.in-Err.ensures.synced (rw (c.failure_from.ensures, same-blame c.in-Err.fault) at stood)).quiet.reads;
  cause = rw (c.failure_from.ensures, same-blame c.in-Err.fault) c.in-Err.ensures.cause;
}

pub returns-in-Ok-device_lines : goal.returns-in-Ok-device_lines
returns-in-Ok-device_lines g c =
    let old = g.D.Disk.seen c.args.disk.now in
    let new = g.D.Disk.seen c.attach.new.disk in
    let held = c.in-Ok.held in
    let same = (c.in-Ok.ensures.synced refl).quiet.reads in
    record {
      may = (
        c.in_ok-check_size.ensures.ok,
        of_device c.payloads_have_one_reading.ensures.one_device old new held (λ device. Shows old.reads device c.in-Ok-device_lines.lines)
            (g.met.D.Disk.lawful c.attach.new.disk) c.in-Ok.ensures.found same
            c.in-Ok-device_lines.ensures,
      );
      still = c.in-Ok.ensures.still;
      reads = λ stood. same;
      cause = c.in-Ok.ensures.cause;
    }

pub returns : goal.returns
returns g c = record {
  may = c.in_ok-check_size.ensures.ok;
  still = c.in-Ok.ensures.still;
  reads = λ stood. (c.in-Ok.ensures.synced refl).quiet.reads;
  cause = c.in-Ok.ensures.cause;
}
