use Rattle.sz_agent.proofs.Living.{comes_of_boots}
use Rattle.sz_agent.proofs.laws.whatever_a_disk_stands_for_is_lawful.Goals as goal

pub returns : goal.returns
returns g c identity first last runs image either lives left =
    comes_of_boots g.D.Disk.seen g.met.D.Disk.lawful identity (c.a_factory_device_is_lawful.ensures identity)
    (λ boots follow. c.boots_leave_lawful_devices.ensures.lawful identity boots follow)
    (λ boots follow. c.a_device_is_committed_once.ensures identity boots follow) first last runs image either lives left
