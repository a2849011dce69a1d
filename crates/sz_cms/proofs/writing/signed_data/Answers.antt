use Rattle.std.proofs.Common.{[], refl}
use Rattle.std.proofs.lemmas.Result.{IfOk-weaker}
use Rattle.sz_cms.proofs.writing.signed_data.Goals as goal

pub returns : goal.returns
returns c = IfOk-weaker c.constructed.result _ _
    (λ bytes item. record {
      digest = c.in_ok-digest_algorithm.digest_algorithm;
      is_digest = c.in_ok-digest_algorithm.ensures;
      is_signed = record {
        version = c.in_ok-version.version;
        algorithms = c.in_ok-algorithms.algorithms;
        content = c.in_ok-content.content;
        certs = c.in_ok-certs.certs;
        crls = [];
        signer_infos = c.in_ok-signers.signers;
        is_version = rw c.version_of.ensures at c.in_ok-version.ensures;
        are_algorithms = rw c.as_slice.ensures at c.in_ok-algorithms.ensures;
        is_content = rw c.identifier.ensures at c.in_ok-content.ensures;
        are_certs = c.in_ok-certs.ensures;
        are_crls = refl;
        are_signers = c.in_ok-signers.ensures;
        is_sequence =
            rw (c.as_slice-2.ensures, c.as_slice-3.ensures, c.as_slice-4.ensures, c.as_slice-5.ensures, c.as_slice-6.ensures) at item;
      };
    })
    c.constructed.ensures
