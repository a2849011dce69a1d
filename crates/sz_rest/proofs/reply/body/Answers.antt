use Rattle.std.proofs.Common.{arith}
use Rattle.std.proofs.lemmas.Result.{IfOk-weaker}
use Rattle.sz_json.proofs.Light.{reads_bounded}
use Rattle.sz_rest.proofs.Plain.{light_reply, plain_reply}
use Rattle.sz_rest.proofs.ReadsBack.{reply_reads_back}
use Rattle.sz_rest.specs.ReplyText.{reply_value}
use Rattle.sz_rest.proofs.reply.body.Goals as goal

pub returns-clause-replies : goal.returns-clause-replies
returns-clause-replies c =
    let evidence = c.args.evidence.now in
    let value = reply_value evidence in
    let compact = rw c.in_ok-value.ensures.value at c.write.ensures.compact in
    let again = rw c.in_ok-value.ensures.value at c.write.ensures.reads_back in
    IfOk-weaker c.write.result _ _ (λ body json. (value, json, reply_reads_back evidence c.in_ok-value.ensures.bytes))
    (reads_bounded c.write.result value 3 10 (plain_reply evidence) (omega arith) (light_reply evidence) (omega arith) compact again)
