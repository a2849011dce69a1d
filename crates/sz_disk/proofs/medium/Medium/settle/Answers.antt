use Rattle.std.proofs.Common.{◌≡◌, List, ℕ, ◌∙◌, ap, subst, length, arith}
use Rattle.std.proofs.lemmas.List.{with_items_is}
use Rattle.sz_disk.proofs.Undone.{pending-fits, picked-settled}
use Rattle.sz_disk.specs.Event.{unsynced, written_over}
use Rattle.sz_disk.specs.Choice.{IsPicked}
use Rattle.sz_disk.proofs.medium.Medium.settle.Goals as goal

pub pick-requires : goal.pick-requires
pick-requires c =
    let s = c.args.self.now in
    pending-fits (length s.bytes.items) _ s.events.items c.since_sync.result.now s.fits (c.since_sync.ensures ∙ ap unsynced c.deref.ensures.value)
    (ap length c.deref_mut.ensures.value)

pub returns-clause-image : goal.returns-clause-image
returns-clause-image c =
    let s = c.args.self.now in
    let pending = c.since_sync.result.now in
    let P : List ℕ → Type 0 = λ bytes. IsPicked c.args.choice pending (written_over pending) bytes c.pick.new.bytes in
    let size : length c.pick.new.bytes ≡ s.bytes.len = omega (arith, c.pick.ensures.size, c.deref_mut.ensures.len) in
    picked-settled c.args.choice s.events.items pending s.bytes.items c.pick.new.bytes _ s.fits (c.since_sync.ensures ∙ ap unsynced c.deref.ensures.value)
    (with_items_is s.bytes c.pick.new.bytes size) (subst P c.deref_mut.ensures.value c.pick.ensures)
