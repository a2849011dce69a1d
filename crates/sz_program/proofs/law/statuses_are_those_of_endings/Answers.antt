use Rattle.sz_program.proofs.Ending.{calm_row, run_status}
use Rattle.sz_program.proofs.Laws.{causes}
use Rattle.sz_program.proofs.law.statuses_are_those_of_endings.Goals as goal

pub returns : goal.returns
returns g c = record {
  each = λ words before after status ran. run_status g.D.Disk.seen before after status words ran;
  calm = λ words command before after status ran calm.
      calm_row g.D.Disk.seen before after status words command calm (causes g.D.Disk.seen before after status words ran)
      (run_status g.D.Disk.seen before after status words ran);
}
