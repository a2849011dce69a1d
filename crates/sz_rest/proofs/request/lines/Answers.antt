use Rattle.std.proofs.Common.{ℕ, List, [], ◌∷◌, codes, refl, ◌∙◌}
use Rattle.sz_base.specs.Target.{target_text}
use Rattle.sz_rest.proofs.Fields.{pushed}
use Rattle.sz_rest.specs.Message.{yang_json}
use Rattle.sz_rest.specs.Request.{request_line, serial_field}
use Rattle.sz_rest.proofs.request.lines.Goals as goal

pub returns-clause-text : goal.returns-clause-text
returns-clause-text c =
    let host : List ℕ × List ℕ = (codes "Host", target_text c.args.target.now) in
    let serial : List ℕ × List ℕ = (serial_field, c.args.serial.now) in
    let kind : List ℕ × List ℕ = (codes "Content-Type", yang_json) in
    let accept : List ℕ × List ℕ = (codes "Accept", yang_json) in
    let one = pushed request_line [] (codes "Host") (target_text c.args.target.now) _ _ _ c.in_ok-lines.ensures c.in_ok-push_field.ensures
    (c.as_slice.ensures ∙ c.in_ok-host.ensures.text) in
    let two = pushed request_line (host ∷ []) serial_field c.args.serial.now _ _ _ one c.in_ok-push_field-2.ensures c.as_slice-2.ensures.bytes in
    let three = pushed request_line (host ∷ serial ∷ []) (codes "Content-Type") yang_json _ _ _ two c.in_ok-push_field-3.ensures refl in
    let four = pushed request_line (host ∷ serial ∷ kind ∷ []) (codes "Accept") yang_json _ _ _ three c.in_ok-push_field-4.ensures refl in
    pushed request_line (host ∷ serial ∷ kind ∷ accept ∷ []) (codes "Connection") (codes "close") _ _ _ four c.in_ok-push_field-5.ensures refl
