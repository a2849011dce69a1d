use Rattle.std.proofs.lemmas.Result.{on_ok_weaker}
use Rattle.sz_der.specs.Tags.{sequence_tag}
use Rattle.sz_issue.specs.Certificate.{AreValues, cert_values}
use Rattle.sz_issue.specs.Parts.{Appends, Holds}
use Rattle.sz_x509.specs.Tags.{extensions_tag}
use Rattle.sz_issue.proofs.CertificateJoined.{extensions_written}
use Rattle.sz_issue.proofs.extensions.write_extensions.Goals as goal

pub returns : goal.returns
returns c =
    let are_values : AreValues (cert_values c.args.spec.now) c.as_slice.result.now c.as_slice-2.result.now c.as_slice-3.result.now = record {
      are_constraints = rw c.as_slice.ensures c.in_ok-constraints.ensures;
      is_usage = rw c.as_slice-2.ensures (rw c.usage_octets.ensures at c.in_ok-usage.ensures);
      is_key_id = rw c.as_slice-3.ensures c.in_ok-key_id.ensures;
    } in
    on_ok_weaker c.write_holder.result
    (λ (held : Appends (Holds extensions_tag sequence_tag c.as_slice-4.result.now) c.args.out.now c.write_holder.new.out). extensions_written are_values
    c.in_ok-extensions.ensures c.in_ok-write_extension.ensures c.in_ok-write_extension-2.ensures c.in_ok-write_extension-3.ensures c.as_slice-4.ensures
    held) c.write_holder.ensures
