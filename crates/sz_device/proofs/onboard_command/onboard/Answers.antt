use Rattle.std.proofs.Common.{◌≡◌, None, inl, inr, refl, sym, rules, arith}
use Rattle.sz_commands.specs.Disks.{disk_under}
use Rattle.sz_device.proofs.Naming.{few_sources}
use Rattle.sz_device.proofs.onboard_command.onboard.Goals as goal

pub boot_device-requires : goal.boot_device-requires
boot_device-requires g c = few_sources _ _ c.in-Ok.sources c.in-Ok.ensures.named

pub returns-in-Err-Form : goal.returns-in-Err-Form
returns-in-Err-Form g c = inl (record {
  none = rw (c.in-Err-Form.field-0-is, c.as_slice.ensures) at c.in-Err-Form.ensures.unread;
  answer_is = refl;
  nothing = refl;
})

pub returns-in-Err-OutOfMemory : goal.returns-in-Err-OutOfMemory
returns-in-Err-OutOfMemory g c = inr (inl (record { answer_is = refl; nothing = refl }))

pub returns-in_default : goal.returns-in_default
returns-in_default g c =
    let none : disk_under c.args.disks.now c.args.words.now.disk ≡ None = first_of (search rules, grind arith) in
    inr (inr (inl (record {
      sources = c.in-Ok.sources;
      named = rw c.as_slice.ensures at c.in-Ok.ensures.named;
      none = none;
      answer_is = refl;
      nothing = refl;
    })))

pub returns : goal.returns
returns g c = inr (inr (inr (record {
  sources = c.in-Ok.sources;
  named = rw c.as_slice.ensures at c.in-Ok.ensures.named;
  old = c.in-Some.disk.now;
  new = c.boot_device.new.disk;
  on = record { held = sym (rw c.as_slice-2.ensures at c.in-Some.ensures.disk); others = rw c.as_slice-2.ensures refl };
  booted = c.boot_device.ensures;
})))
