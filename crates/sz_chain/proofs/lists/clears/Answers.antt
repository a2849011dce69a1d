use Rattle.std.proofs.Common.{◌+◌, true≢false, Bool, sym, ◌∙◌, subst, arith}
use Rattle.sz_chain.proofs.Clears.{SoFar}
use Rattle.sz_chain.proofs.Issued.{told_all, told_clears, told_passes, told_revokes}
use Rattle.sz_chain.proofs.lists.clears.Goals as goal
use Rattle.sz_chain.proofs.lists.clears.Goals.{then-has+else-lists, else-has}

pub returns-then-lists : goal.returns-then-lists
returns-then-lists c = (
  λ e. absurd (true≢false (sym e)),
  λ clear. absurd (told_revokes c.args.lists.now c.args.place c.args.serial.now c.loop-told.told-index _ c.loop-told-test.true c.requires.read
      c.lists.result (sym c.has.ensures ∙ c.if-has.true) c.lists.ensures c.if-lists.true clear),
)

pub loop-told-preserved : goal.loop-told-preserved
loop-told-preserved c =
    let next : Bool → Type 0 = λ b. SoFar c.args.lists.now c.args.place c.args.serial.now (c.loop-told.told-index + 1) b in
    elim c.if-has.branch [
      | then-has+else-lists w ↦
          subst next (sym w.is_told-is) (told_clears c.args.lists.now c.args.place c.args.serial.now c.loop-told.told-index _ c.loop-told-test.true
          w.lists.result c.loop-told.is_told (sym c.has.ensures ∙ w.if-has.true) w.lists.ensures w.if-lists.false c.loop-told.invariant)
      | else-has w ↦
          subst next (sym w.is_told-is) (told_passes c.args.lists.now c.args.place c.args.serial.now c.loop-told.told-index _ c.loop-told-test.true
          c.loop-told.is_told (sym c.has.ensures ∙ w.if-has.false) c.loop-told.invariant)
    ]

pub returns : goal.returns
returns c =
    told_all c.args.lists.now c.args.place c.args.serial.now c.loop-told.told-index c.loop-told.is_told (omega arith) c.loop-told.invariant
