use Rattle.std.proofs.Common.{◌<◌, length, refl, sym, ap, ◌∙◌, arith}
use Rattle.std.specs.List.{slice_get}
use Rattle.std.specs.Option.{option_map}
use Rattle.sz_disk.specs.Disks.{with_disk_at}
use Rattle.sz_disk.proofs.Named.{with-set, disk-there}
use Rattle.sz_disk.proofs.disks.Disks.disk_at.Goals as goal

pub returns : goal.returns
returns g c =
    let entries = c.self.inside.entries.items in
    let lt : c.args.place < length entries = omega (arith, c.requires, ap length c.self.view_is) in (
      (
        refl,
        λ w. with-set entries c.args.place c.index_mut-entry.result.now w lt c.index_mut-entry.ensures.value
            ∙ ap (λ s. with_disk_at c.args.place s w) c.self.view_is,
      ),
      record {
        writes_back = tt;
        disk = ap (λ s. option_map (λ e. e.1) (slice_get s c.args.place)) (sym c.self.view_is)
            ∙ disk-there entries c.args.place c.index_mut-entry.result.now lt c.index_mut-entry.ensures.value;
      },
    )
