use Rattle.sz_program.proofs.Laws.{run_installs, run_leaves}
use Rattle.sz_program.proofs.law.a_boot_ends_as_its_status_says.Goals as goal

pub returns : goal.returns
returns g c = record {
  restart = λ words own before after status. run_installs g.D.Disk.seen before after status words own;
  no_source = λ words own before after status. run_leaves g.D.Disk.seen before after status words own;
}
