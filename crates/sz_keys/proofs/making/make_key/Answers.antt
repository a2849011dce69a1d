use Rattle.std.proofs.Common.{◌≡◌, List, ℕ, Ok, Err, inr, refl, subst}
use Rattle.std.specs.Option.{option_map}
use Rattle.sz_commands.specs.Objects.{EntropySeen}
use Rattle.sz_io.specs.Folder.{with_file}
use Rattle.sz_keys.proofs.Standing.{end-is, is-standing, public-is}
use Rattle.sz_keys.proofs.making.make_key.Goals as goal

pub returns-in-Ok-write : goal.returns-in-Ok-write
returns-in-Ok-write g c =
    let seen = g.D.Disk.seen in
    let made = c.in-Ok.ensures.created refl in
    let before : EntropySeen = record { faults = g.E.Entropy.faults c.args.entropy.now; bytes = g.E.Entropy.bytes c.args.entropy.now } in
    let after : EntropySeen = record { faults = g.E.Entropy.faults c.create.new.entropy; bytes = g.E.Entropy.bytes c.create.new.entropy } in
    let key = made.0 in
    let signer = c.in-Ok.signer in
    let standing = is-standing c.args.levels.now key (seen c.args.disk.now) (seen c.create.new.disk) signer made.2 before after made.1
    (c.in-Ok.ensures.size refl) in
    let end = end-is c.args.levels.now key (seen c.args.disk.now) (seen c.create.new.disk) signer made.2 c.end.result c.end.ensures in
    let public = public-is c.args.levels.now key (seen c.args.disk.now) (seen c.create.new.disk) signer made.2 c.public.result c.public.ensures in
    record {
      may = (
        key,
        standing,
        end,
        subst (λ (bytes : List ℕ). g.F.Folder.files c.write.new.self ≡ option_map (with_file c.args.public.now bytes) (g.F.Folder.files c.args.folder.now))
            public c.in-Ok-write.ensures.ok,
      );
      disk = c.in-Ok.ensures.cause;
      folder = c.in-Ok-write.ensures.cause;
      entropy = c.in-Ok.ensures.entropy;
    }

pub returns : goal.returns
returns g c =
    let seen = g.D.Disk.seen in
    let made = c.in-Ok.ensures.created refl in
    let before : EntropySeen = record { faults = g.E.Entropy.faults c.args.entropy.now; bytes = g.E.Entropy.bytes c.args.entropy.now } in
    let after : EntropySeen = record { faults = g.E.Entropy.faults c.create.new.entropy; bytes = g.E.Entropy.bytes c.create.new.entropy } in
    let standing = is-standing c.args.levels.now made.0 (seen c.args.disk.now) (seen c.create.new.disk) c.in-Ok.signer made.2 before after made.1
    (c.in-Ok.ensures.size refl) in
    record {
      may = inr ((made.0, standing), c.in-Err-OutOfMemory.ensures.refused);
      disk = c.in-Ok.ensures.cause;
      folder = rw c.in-Err-OutOfMemory.field-0-is at c.in-Err-OutOfMemory.ensures.cause;
      entropy = c.in-Ok.ensures.entropy;
    }
