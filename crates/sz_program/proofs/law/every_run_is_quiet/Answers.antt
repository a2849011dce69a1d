use Rattle.sz_program.proofs.Laws.{run_output, run_unchanged}
use Rattle.sz_program.proofs.law.every_run_is_quiet.Goals as goal

pub returns : goal.returns
returns g c = record {
  output = λ words before after status. run_output g.D.Disk.seen before after status words;
  unchanged = λ words paths before after status. run_unchanged g.D.Disk.seen before after status words paths;
}
