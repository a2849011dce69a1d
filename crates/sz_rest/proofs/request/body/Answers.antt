use Rattle.std.proofs.Common.{option_copied, arith}
use Rattle.sz_json.proofs.Light.{reads_bounded}
use Rattle.sz_rest.proofs.Plain.{light_request, plain_request}
use Rattle.sz_rest.specs.Request.{request_value}
use Rattle.sz_rest.proofs.request.body.Goals as goal

pub returns-clause-reads_back : goal.returns-clause-reads_back
returns-clause-reads_back c =
    let nonce = option_copied c.args.nonce in
    let compact = rw c.in_ok-value.ensures at c.write.ensures.compact in
    let again = rw c.in_ok-value.ensures at c.write.ensures.reads_back in
    reads_bounded c.write.result (request_value nonce) 3 9 (plain_request nonce) (omega arith) (light_request nonce) (omega arith) compact again
