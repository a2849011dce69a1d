use Rattle.std.proofs.Common.{List, ℕ, Option, subst}
use Rattle.sz_audit.specs.Audit.{Audits}
use Rattle.sz_device.proofs.Reading.{all_well}
use Rattle.sz_device.proofs.laws.a_lawful_device_is_authorised.Goals as goal

pub returns : goal.returns
returns g c = λ old new bytes device audit looks reads stands lawful.
    let audits = looks.may.1.each device stands.sequence (record { bytes = bytes; reads = reads; record_is = stands.record_is }) in
    let told = subst (λ (r : Option (List ℕ)). Audits r device audit) reads audits in
    let all = c.lawful_devices_are_authorised.ensures bytes device audit lawful stands told in
    (all, all_well audit all)
