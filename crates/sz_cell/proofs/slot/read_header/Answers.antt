use Rattle.std.proofs.Common.{◌≡◌, length, ◌∙◌, ap, arith}
use Rattle.sz_disk.specs.Image.{part}
use Rattle.sz_cell.specs.Slot.{header_size}
use Rattle.sz_cell.proofs.ReadBack.{header_read, header_given, read_gives}
use Rattle.sz_cell.proofs.Regions.{place_inside}
use Rattle.sz_cell.proofs.slot.read_header.Goals as goal

pub place-requires : goal.place-requires
place-requires g c = omega (arith, c.requires.within, (g.met.D.Disk.lawful c.args.disk.now).word)

pub read-requires : goal.read-requires
read-requires g c =
    let inside = place_inside c.args.region.at c.args.region.capacity c.args.slot c.requires.slot in
    omega (arith, c.place.ensures, inside.1, c.requires.within)

pub returns-clause-header : goal.returns-clause-header
returns-clause-header g c =
    let long : length c.read.new.into ≡ header_size = omega arith in
    header_read c.args.region.at c.args.region.capacity c.args.slot (g.D.Disk.seen c.args.disk.now).reads c.read-2.result (λ bytes told.
    header_given c.args.region.at c.args.region.capacity c.args.slot bytes c.read.new.into c.read-2.result
    (read_gives _ _ c.read.new.into bytes c.in_ok-read.ensures.bytes told
    ∙ ap (λ n. part bytes c.place.result n) long
    ∙ ap (λ p. part bytes p header_size) c.place.ensures)
    c.read-2.ensures.gate c.read-2.ensures.sequence c.read-2.ensures.size)
