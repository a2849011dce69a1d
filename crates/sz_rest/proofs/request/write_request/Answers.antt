use Rattle.std.proofs.Common.{List, ℕ, sym, ap, ◌∙◌, subst, option_copied}
use Rattle.std.proofs.lemmas.Result.{IfOk-weaker}
use Rattle.sz_json.specs.Bounded.{IsBoundedJson}
use Rattle.sz_rest.proofs.Requests.{asks}
use Rattle.sz_rest.specs.Asked.{AsksFor}
use Rattle.sz_rest.specs.Message.{message_text}
use Rattle.sz_rest.specs.Request.{request_fields, request_line, request_value}
use Rattle.sz_rest.proofs.request.write_request.Goals as goal

pub returns-clause-written : goal.returns-clause-written
returns-clause-written c =
    let fields = request_fields c.args.target.now c.args.serial.now in
    IfOk-weaker c.finish.result _ _
    (λ text h. h.whole request_line fields c.in_ok-lines.ensures.text
    ∙ ap (λ (body : List ℕ). message_text request_line fields body) (c.as_slice.ensures ∙ c.in_ok-body.ensures.compact))
    c.finish.ensures

pub returns-clause-asks : goal.returns-clause-asks
returns-clause-asks c =
    let nonce = option_copied c.args.nonce in
    let json = subst (λ (body : List ℕ). IsBoundedJson body (request_value nonce)) (sym c.as_slice.ensures) c.in_ok-body.ensures.reads_back in
    IfOk-weaker c.finish.result _ _
    (λ text h. subst (λ (t : List ℕ). AsksFor c.args.serial.now t)
    (sym (h.whole request_line (request_fields c.args.target.now c.args.serial.now) c.in_ok-lines.ensures.text))
    (asks c.args.target.now c.args.serial.now nonce c.as_slice.result.now c.in_ok-lines.ensures.formed h.length_fits json))
    c.finish.ensures
