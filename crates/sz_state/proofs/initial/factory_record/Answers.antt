use Rattle.std.proofs.Common.{sym, subst}
use Rattle.sz_record.specs.Spelling.{new_version}
use Rattle.sz_record.specs.Stored.{HasWidths, IsStorable}
use Rattle.sz_record.specs.declared.device.Device.{Device}
use Rattle.sz_state.proofs.Finding.{factory_storable}
use Rattle.sz_state.proofs.initial.factory_record.Goals as goal

pub write-requires : goal.write-requires
write-requires c =
    let P : Device → Type 0 = λ d. IsStorable new_version d in
    subst P (sym c.in_ok-device.ensures) (factory_storable c.args.identity.now c.requires)

pub returns-clause-wide : goal.returns-clause-wide
returns-clause-wide c =
    let P : Device → Type 0 = λ d. HasWidths d in
    subst P c.in_ok-device.ensures c.device_widths.ensures
