use Rattle.std.proofs.lemmas.Result.{IfOk-weaker}
use Rattle.sz_der.specs.Der.{Der}
use Rattle.sz_der.specs.Tags.{sequence_tag}
use Rattle.sz_issue.specs.RevocationList.{crl_values, IsWrittenTbsList}
use Rattle.sz_issue.proofs.ListJoined.{list_written}
use Rattle.sz_issue.proofs.list.write_each.Goals as goal

pub returns : goal.returns
returns c =
    let values = crl_values c.args.spec.now in
    let entries = rw c.as_slice.ensures at c.in_ok-entries.ensures in
    let issuer = rw c.as_slice-2.ensures at c.in_ok-write_name.ensures in
    let revoked = rw (c.as_slice-3.ensures, c.as_slice-4.ensures) at c.in_ok-write_revoked.ensures in
    IfOk-weaker c.item_of.result (Der sequence_tag c.as_slice-5.result.now) (IsWrittenTbsList values)
    (list_written values c.in_ok-entries.entries entries c.in_ok-parts.ensures c.in_ok-item.ensures.ok c.in_ok-write_algorithm.ensures issuer
    c.in_ok-write_time.ensures c.in_ok-write_next_update.ensures revoked c.as_slice-5.ensures) c.item_of.ensures
