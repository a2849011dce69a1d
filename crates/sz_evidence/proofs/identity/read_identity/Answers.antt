use Rattle.serde_json.specs.View.{view}
use Rattle.sz_evidence.specs.IdentityFile.{IsBadIdentity, NamesBad}
use Rattle.sz_evidence.proofs.Members.{bad_anchors, exit, short_anchors}
use Rattle.sz_evidence.proofs.identity.read_identity.Goals as goal

pub returns-in_err-anchors-clause-refused : goal.returns-in_err-anchors-clause-refused
returns-in_err-anchors-clause-refused c =
    exit c.from_residual-in_err-anchors.result c.in_err-anchors.field-0.0 (NamesBad (IsBadIdentity c.args.bytes.now))
    c.from_residual-in_err-anchors.ensures.1
    (bad_anchors c.args.bytes.now (view c.in_ok-value.value) c.in_err-anchors.field-0.0 c.in_ok-value.ensures.ok
    (c.in_ok-serial.serial, c.in_ok-serial.ensures.ok) (c.in_ok-os_name.os_name, c.in_ok-os_name.ensures.ok)
    (c.in_ok-os_version.os_version, c.in_ok-os_version.ensures.ok) c.in_err-anchors.ensures.refused)

pub returns-clause-whole : goal.returns-clause-whole
returns-clause-whole c =
    let anchors = c.in_ok-anchors.ensures.ok in record {
      some = anchors.some;
      most = anchors.most;
      anchors = short_anchors anchors.entries c.in_ok-anchors.anchors anchors.each;
      os_name = c.in_ok-os_name.ensures.ok.form;
      os_version = c.in_ok-os_version.ensures.ok.form;
    }
