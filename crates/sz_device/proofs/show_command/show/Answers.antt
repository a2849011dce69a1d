use Rattle.std.proofs.Common.{◌≡◌, None, inl, inr, refl, sym, rules, arith}
use Rattle.sz_commands.specs.Disks.{disk_under}
use Rattle.sz_device.proofs.show_command.show.Goals as goal

pub returns-in_default : goal.returns-in_default
returns-in_default g c =
    let none : disk_under c.args.disks.now c.args.word.now ≡ None = first_of (search rules, grind arith) in
    inl (record { none = none; answer_is = refl; nothing = refl })

pub returns : goal.returns
returns g c = inr (record {
  old = c.in-Some.disk.now;
  new = c.look_and_show.new.disk;
  on = record { held = sym (rw c.as_slice.ensures at c.in-Some.ensures.disk); others = rw c.as_slice.ensures refl };
  looks = c.look_and_show.ensures;
})
