use Rattle.sz_program.proofs.Laws.{signed, unsigned, exact}
use Rattle.sz_program.proofs.law.checks_are_right.Goals as goal

pub returns : goal.returns
returns g c = record {
  signed = λ words paths before after status. signed g.D.Disk.seen before after status words paths;
  unsigned = λ words paths before after status. unsigned g.D.Disk.seen before after status words paths;
  exact = λ words paths before after status. exact g.D.Disk.seen before after status words paths;
}
