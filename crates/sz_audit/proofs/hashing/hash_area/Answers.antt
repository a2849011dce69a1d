use Rattle.std.proofs.Common.{◌≡◌, ◌∙◌, ap}
use Rattle.sz_state.specs.Layout.{area_place}
use Rattle.sz_audit.proofs.Pieces.{hash_placed, inside}
use Rattle.sz_audit.proofs.hashing.hash_area.Goals as goal

pub hash_from-requires-clause-inside : goal.hash_from-requires-clause-inside
hash_from-requires-clause-inside g c =
    let size = (g.D.Disk.seen c.args.disk.now).size in
    inside c.place_of.result c.args.size size c.args.area
    (c.place_of.ensures c.size.result c.in-Some.ensures.some ∙ ap (λ s. area_place s c.args.area) c.size.ensures)
    c.requires.within

pub returns-in-Ok-hash_from-clause-ok : goal.returns-in-Ok-hash_from-clause-ok
returns-in-Ok-hash_from-clause-ok g c =
    let before = g.D.Disk.seen c.args.disk.now in
    let now = g.D.Disk.seen c.hash_from.new.disk in
    let is : c.place_of.result ≡ area_place before.size c.args.area =
    c.place_of.ensures c.size.result c.in-Some.ensures.some ∙ ap (λ s. area_place s c.args.area) c.size.ensures in
    let placed : c.place_of.result ≡ area_place now.size c.args.area =
    rw c.in-Ok-hash_from.ensures.quiet.still.size is in
    hash_placed now c.place_of.result c.args.size c.args.area c.in-Ok-hash_from.digest
    (g.met.D.Disk.lawful c.hash_from.new.disk) placed c.in-Ok-hash_from.ensures.ok
