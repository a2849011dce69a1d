use Rattle.std.proofs.Common.{◌∙◌}
use Rattle.sz_device.proofs.Naming.{identity_is, member_is}
use Rattle.sz_device.proofs.identity_file.identity_at.Goals as goal

pub returns-in-Ok-clause-identity : goal.returns-in-Ok-clause-identity
returns-in-Ok-clause-identity g c =
    identity_is (g.F.Folder.files c.args.folder.now) c.args.path.now c.in_ok-bytes.bytes c.in-Ok.identity c.in_ok-bytes.ensures.file
    (rw c.as_slice.ensures at c.in-Ok.ensures.ok)

pub returns-in-Err-Bad-clause-none : goal.returns-in-Err-Bad-clause-none
returns-in-Err-Bad-clause-none g c =
    let bad = rw (c.in-Err-Bad.field-0-is, c.as_slice.ensures) at c.in-Err-Bad.ensures.refused in
    member_is (g.F.Folder.files c.args.folder.now) c.args.path.now c.in_ok-bytes.bytes c.as_bytes.result.now c.in-Err-Bad.name
    c.in_ok-bytes.ensures.file bad (c.as_bytes.ensures.value ∙ c.as_str.ensures)
