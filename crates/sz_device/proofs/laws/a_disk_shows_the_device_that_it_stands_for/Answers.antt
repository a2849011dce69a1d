use Rattle.sz_device.proofs.laws.a_disk_shows_the_device_that_it_stands_for.Goals as goal

pub returns : goal.returns
returns g c = λ old new bytes device text looks reads stands.
    looks.may.1.each device stands.sequence (record { bytes = bytes; reads = reads; record_is = stands.record_is })
