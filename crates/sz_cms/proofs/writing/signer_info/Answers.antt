use Rattle.std.proofs.lemmas.Result.{IfOk-weaker}
use Rattle.sz_cms.proofs.writing.signer_info.Goals as goal

pub returns : goal.returns
returns c = IfOk-weaker c.constructed.result _ _
    (λ bytes item. record {
      version = c.in_ok-version.version;
      identifier = c.in_ok-identifier.identifier;
      digest_algorithm = c.in_ok-digest_algorithm.digest_algorithm;
      signature_algorithm = c.in_ok-signature_algorithm.signature_algorithm;
      octets = c.in_ok-octets.octets;
      is_version = c.in_ok-version.ensures;
      is_identifier = c.in_ok-identifier.ensures;
      is_digest_algorithm = c.in_ok-digest_algorithm.ensures;
      is_signature_algorithm = c.in_ok-signature_algorithm.ensures;
      is_signature = c.in_ok-octets.ensures;
      is_sequence =
          rw (
            c.as_slice.ensures,
            c.as_slice-2.ensures,
            c.as_slice-3.ensures,
            c.as_slice-4.ensures,
            c.as_slice-5.ensures,
            c.as_slice-6.ensures,
            c.in_ok-field.ensures,
          ) at item;
    })
    c.constructed.ensures
