use Rattle.std.proofs.lemmas.Result.{IfOk-weaker}
use Rattle.sz_cms.proofs.writing.certs_data.Goals as goal

pub returns : goal.returns
returns c = IfOk-weaker c.constructed.result _ _
    (λ bytes item. record {
      version = c.in_ok-version.version;
      algorithms = c.in_ok-none.none;
      content = c.in_ok-content.content;
      certs = c.in_ok-certs.certs;
      crls = c.in_ok-crls.crls;
      signer_infos = c.in_ok-none.none;
      is_version = rw c.version_of.ensures at c.in_ok-version.ensures;
      are_algorithms = c.in_ok-none.ensures;
      is_content = c.in_ok-content.ensures;
      are_certs = c.in_ok-certs.ensures;
      are_crls = c.in_ok-crls.ensures;
      are_signers = c.in_ok-none.ensures;
      is_sequence =
          rw (
            c.as_slice.ensures,
            c.as_slice-2.ensures,
            c.as_slice-3.ensures,
            c.as_slice-4.ensures,
            c.as_slice-5.ensures,
            c.as_slice-6.ensures,
          ) at item;
    })
    c.constructed.ensures
