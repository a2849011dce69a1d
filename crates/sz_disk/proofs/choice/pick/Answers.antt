use Rattle.std.proofs.Common.{List, ℕ, sym, subst}
use Rattle.sz_disk.specs.Event.{written_over}
use Rattle.sz_disk.specs.Choice.{IsPicked}
use Rattle.sz_disk.proofs.Undone.{picked-undone}
use Rattle.sz_disk.proofs.choice.pick.Goals as goal

pub returns-in-0 : goal.returns-in-0
returns-in-0 c =
    let pending = c.args.pending.now in
    let bytes = c.args.bytes.now in
    let P : ℕ → Type 0 = λ choice. IsPicked choice pending (written_over pending) bytes c.undo.new.bytes in
    let Q : List ℕ → Type 0 = λ image. IsPicked 0 pending (written_over pending) bytes image in
    subst P (sym c.in-0.is) (subst Q (sym c.undo.ensures) (picked-undone pending bytes c.requires))
