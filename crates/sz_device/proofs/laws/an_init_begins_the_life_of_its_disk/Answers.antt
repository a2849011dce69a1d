use Rattle.std.proofs.Common.{inl}
use Rattle.sz_device.proofs.laws.an_init_begins_the_life_of_its_disk.Goals as goal

pub returns : goal.returns
returns g c identity old new serial made tells =
    record { tells = tells; each = λ image left. inl (made.may.2.stands image left).stands }
