use Rattle.sz_device.proofs.Refusing.{unbooted}
use Rattle.sz_device.proofs.laws.an_onboard_is_a_boot_of_its_disk.Goals as goal

pub returns : goal.returns
returns g c = record {
  boot = λ sources old new before after report booted device sequence reads. (booted.may.3.boot_ok device sequence reads).changes;
  nothing = λ sources old new before after failure booted. unbooted g.D.Disk.seen sources old new before after failure booted.may;
}
