use Rattle.std.proofs.Common.{refl}
use Rattle.sz_json.proofs.Base64.{base64_of-text, base64_of-none}
use Rattle.sz_json.proofs.members.decoded.Goals as goal

pub returns-in-Ok-clause-ok : goal.returns-in-Ok-clause-ok
returns-in-Ok-clause-ok c = base64_of-text _ _ (rw c.as_bytes.ensures.value at c.in-Ok.ensures.reads.ok)

pub returns-in-Err-Form-clause-refused : goal.returns-in-Err-Form-clause-refused
returns-in-Err-Form-clause-refused c =
    let refused = rw (c.in-Err-Form.field-0-is, c.as_bytes.ensures.value) at c.in-Err-Form.ensures.reads.refused in
    let none = base64_of-none c.args.text.now (refused.0 refl) in
    λ name same. rw none (cc)
