use Rattle.sz_issue.proofs.CertificateJoined.{extension_written}
use Rattle.sz_issue.proofs.extensions.write_extension.Goals as goal

pub returns : goal.returns
returns c =
    extension_written c.in_ok-parts.ensures c.in_ok-item.ensures.ok c.in_ok-write_flag.ensures c.in_ok-item-2.ensures.ok c.as_slice.ensures
    c.in_ok-item-3.ensures.ok
