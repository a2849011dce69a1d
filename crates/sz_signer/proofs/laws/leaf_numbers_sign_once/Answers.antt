use Rattle.sz_signer.proofs.Lives.{sound-life}
use Rattle.sz_signer.proofs.laws.leaf_numbers_sign_once.Goals as goal

pub returns : goal.returns
returns g c life steps begins lives = sound-life g.D.Disk.seen g.met.D.Disk.lawful life steps begins lives
