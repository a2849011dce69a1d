use Rattle.std.proofs.lemmas.Result.{IfOk-weaker}
use Rattle.sz_cms.proofs.SetOrder.{type_before_digest}
use Rattle.sz_cms.proofs.WrittenParts.{attributes_written, one_valued}
use Rattle.sz_cms.specs.Kind.{identifier_of}
use Rattle.sz_cms.specs.Spelled.{id_content_type, id_message_digest}
use Rattle.sha2.specs.Sha256.{sha256}
use Rattle.sz_cms.proofs.writing.write_attributes.Goals as goal

pub returns-clause-written : goal.returns-clause-written
returns-clause-written c =
    let kind = identifier_of c.args.kind in
    let content = c.args.content.now in
    let is_type = one_valued id_content_type 6 kind c.in_ok-type_value.type_value c.in_ok-content_type.content_type
    (rw c.identifier.ensures at c.in_ok-type_value.ensures) (rw c.as_slice.ensures at c.in_ok-content_type.ensures) in
    let is_digest = one_valued id_message_digest 4 (sha256 content) c.in_ok-digest_value.digest_value c.in_ok-digest.digest
    (rw c.digest.ensures at c.in_ok-digest_value.ensures) (rw c.as_slice-2.ensures at c.in_ok-digest.ensures) in
    IfOk-weaker c.constructed.result _ _
    (λ bytes item. record {
      type = c.in_ok-content_type.content_type;
      digest = c.in_ok-digest.digest;
      is_type = is_type;
      is_digest = is_digest;
      in_order = type_before_digest c.args.kind c.requires content c.in_ok-content_type.content_type c.in_ok-digest.digest is_type is_digest;
      is_set = rw (c.as_slice-3.ensures, c.as_slice-4.ensures) at item;
    })
    c.constructed.ensures

pub returns-clause-says : goal.returns-clause-says
returns-clause-says c = IfOk-weaker c.constructed.result _ _
    (λ bytes item. attributes_written (identifier_of c.args.kind) c.args.content.now c.in_ok-type_value.type_value c.in_ok-digest_value.digest_value
    c.in_ok-content_type.content_type c.in_ok-digest.digest bytes
    (rw c.identifier.ensures at c.in_ok-type_value.ensures) (rw c.as_slice.ensures at c.in_ok-content_type.ensures)
    (rw c.digest.ensures at c.in_ok-digest_value.ensures) (rw c.as_slice-2.ensures at c.in_ok-digest.ensures)
    (rw (c.as_slice-3.ensures, c.as_slice-4.ensures) at item))
    c.constructed.ensures
