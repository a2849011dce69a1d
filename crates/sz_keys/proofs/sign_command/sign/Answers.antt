use Rattle.std.proofs.Common.{◌≡◌, None, inl, inr, refl, rules, arith}
use Rattle.sz_commands.specs.Disks.{disk_under}
use Rattle.sz_keys.proofs.sign_command.sign.Goals as goal

pub returns-in_default : goal.returns-in_default
returns-in_default g c =
    let none : disk_under c.args.disks.now c.args.words.now.key ≡ None = first_of (search rules, grind arith) in
    inr (inl (record {
      message = c.in_ok-message.message;
      file = c.in_ok-message.ensures.message;
      none = none;
      answer_is = refl;
      disks = refl;
      files = c.in_ok-message.ensures.unchanged;
      faults = c.in_ok-message.ensures.cause.stood refl;
    }))
