use Rattle.sz_program.proofs.Completing.{run_complete}
use Rattle.sz_program.proofs.law.an_undisturbed_run_is_complete.Goals as goal

pub returns : goal.returns
returns g c words own before after status old new device sequence ran is still =
    run_complete g.D.Disk.seen c.an_undisturbed_onboard_is_complete.ensures own before after old new device sequence still words status ran is
