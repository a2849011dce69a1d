use Rattle.sz_program.proofs.Laws.{run_spends}
use Rattle.sz_program.proofs.law.a_leaf_is_spent_first.Goals as goal

pub returns : goal.returns
returns g c = λ words own before after status. run_spends g.D.Disk.seen before after status words own
