use Rattle.std.proofs.Common.{sym}
use Rattle.std.proofs.lemmas.Bool.{eqb-true, eqb-false}
use Rattle.sz_cell.specs.Header.{slot_with}
use Rattle.sz_cell.proofs.Judged.{neither, first_alone, second_alone}
use Rattle.sz_cell.proofs.header.judge.Goals as goal

pub returns-in-true-false : goal.returns-in-true-false
returns-in-true-false c =
    rw c.whole.ensures (first_alone c.args.capacity c.args.first c.args.second c.requires.first
    (eqb-true _ _ (sym c.in-true-false.ensures)) (eqb-false _ _ (sym c.in-true-false.ensures')))

pub returns-in-false-true : goal.returns-in-false-true
returns-in-false-true c =
    rw c.whole-in-false-true.ensures (second_alone c.args.capacity c.args.first c.args.second c.requires.second
    (eqb-false _ _ (sym c.in-false-true.ensures)) (eqb-true _ _ (sym c.in-false-true.ensures')))

pub returns-in-false-false : goal.returns-in-false-false
returns-in-false-false c p q =
    neither c.args.capacity (slot_with c.args.first p) (slot_with c.args.second q)
    (eqb-false _ _ (sym c.in-false-false.ensures)) (eqb-false _ _ (sym c.in-false-false.ensures'))
