use Rattle.std.proofs.Common.{◌≡◌, None, inl, inr, refl, sym, rules, arith}
use Rattle.std.proofs.lemmas.Result.{err_from_is_err_and}
use Rattle.sz_commands.specs.Disks.{disk_under}
use Rattle.sz_commands.specs.View.{failure_of}
use Rattle.sz_device.proofs.init_command.init.Goals as goal

pub returns-in_err-identity : goal.returns-in_err-identity
returns-in_err-identity g c =
    let p = err_from_is_err_and c.from_residual.result c.from_residual.ensures.1 in
    rw (p.1, p.2) (inl (record {
      failure = failure_of c.in_err-identity.field-0.0;
      answer_is = refl;
      why = c.in_err-identity.ensures.none;
      disks = refl;
      files = c.in_err-identity.ensures.unchanged;
      cause = c.in_err-identity.ensures.cause;
    }))

pub returns-in_default : goal.returns-in_default
returns-in_default g c =
    let none : disk_under c.args.disks.now c.args.words.now.disk ≡ None = first_of (search rules, grind arith) in
    inr (inl (record {
      identity = c.in_ok-identity.identity;
      file = c.in_ok-identity.ensures.identity;
      none = none;
      answer_is = refl;
      nothing = rw (c.in_ok-identity.ensures.unchanged, c.in_ok-identity.ensures.cause.stood refl) refl;
    }))

pub returns : goal.returns
returns g c = inr (inr (record {
  identity = c.in_ok-identity.identity;
  file = c.in_ok-identity.ensures.identity;
  old = c.in-Some.disk.now;
  new = c.make_device.new.disk;
  on = record { held = sym (rw c.as_slice.ensures at c.in-Some.ensures.disk); others = rw c.as_slice.ensures refl };
  made = c.make_device.ensures;
  folder = rw (c.in_ok-identity.ensures.unchanged, c.in_ok-identity.ensures.cause.stood refl) refl;
}))
