use Rattle.sz_agent.specs.Boot.{outside_of}
use Rattle.sz_device.proofs.laws.an_undisturbed_onboard_is_complete.Goals as goal

pub returns : goal.returns
returns g c sources old new before after report device sequence booted reads uncommitted undisturbed =
    let ok = booted.may.3.boot_ok device sequence reads in
    let outside = outside_of before.folder.files before.net.traffic after.net.traffic in
    (ok.changes, ok.step, c.a_boot_is_complete.ensures old new sources outside report device sequence booted.disk undisturbed uncommitted ok)
