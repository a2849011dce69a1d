use Rattle.std.proofs.lemmas.Result.{IfOk-weaker}
use Rattle.sz_der.specs.Der.{Der}
use Rattle.sz_der.specs.Tags.{sequence_tag}
use Rattle.sz_issue.specs.Certificate.{IsWrittenTbs, cert_values}
use Rattle.sz_issue.proofs.CertificateJoined.{tbs_written}
use Rattle.sz_issue.proofs.cert.write_each.Goals as goal

pub returns : goal.returns
returns c =
    IfOk-weaker c.item_of.result (Der sequence_tag c.as_slice-3.result.now) (IsWrittenTbs (cert_values c.args.spec.now))
    (tbs_written c.in_ok-parts.ensures c.in_ok-write_version.ensures c.in_ok-integer.ensures.ok c.in_ok-write_algorithm.ensures
    (rw c.as_slice.ensures at c.in_ok-write_name.ensures) c.in_ok-write_validity.ensures (rw c.as_slice-2.ensures at c.in_ok-write_name-2.ensures)
    c.in_ok-write_key.ensures c.in_ok-write_extensions.ensures c.as_slice-3.ensures) c.item_of.ensures
