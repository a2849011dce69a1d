use Rattle.std.proofs.Common.{rules}
use Rattle.sz_issue.proofs.CertificateJoined.{key_written}
use Rattle.sz_issue.proofs.cert.write_key.Goals as goal

pub returns : goal.returns
returns c =
    key_written (search rules) c.in_ok-wrapped.ensures c.as_slice.ensures c.in_ok-parts.ensures c.in_ok-write_algorithm.ensures
    c.in_ok-write_octets.ensures c.as_slice-2.ensures c.in_ok-item.ensures.ok
