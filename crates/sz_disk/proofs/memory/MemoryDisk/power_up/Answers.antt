use Rattle.std.proofs.Common.{List, sym, subst}
use Rattle.sz_disk.proofs.Between.{powered_up-fresh}
use Rattle.sz_disk.specs.Between.{PoweredUp}
use Rattle.sz_disk.specs.Event.{seen_after}
use Rattle.sz_disk.specs.Laws.{lawful_after}
use Rattle.sz_disk.specs.declared.event.Event.{Event}
use Rattle.sz_disk.proofs.memory.MemoryDisk.power_up.Goals as goal

pub returns-clause-powered : goal.returns-clause-powered
returns-clause-powered c =
    let medium = c.args.self.medium in
    let bytes = medium.bytes.items in
    let events = medium.events.items in
    let faults = c.args.self.faults in
    let picked = c.settle.new.self.bytes.items in
    let image = c.settle.ensures.image in
    subst (λ (es : List Event). PoweredUp (seen_after bytes events faults) (seen_after bytes events faults) (seen_after picked es faults))
    (sym c.settle.ensures.events)
    (powered_up-fresh bytes picked events faults faults (lawful_after bytes events faults medium.word medium.fits)
    (record { size = image.size; kept = image.kept }))
