use Rattle.std.proofs.Common.{inr, sym, refl}
use Rattle.sz_keys.proofs.keygen_command.keygen.Goals as goal

pub returns : goal.returns
returns g c = inr (inr (record {
  shapes = c.in-Ok.levels;
  levels = rw c.as_slice.ensures at c.in-Ok.ensures.reads.ok;
  old = c.in-Some.disk.now;
  new = c.make_key.new.disk;
  held = sym (rw c.as_slice-2.ensures at c.in-Some.ensures.disk);
  others = rw c.as_slice-2.ensures refl;
  made = c.make_key.ensures;
}))
