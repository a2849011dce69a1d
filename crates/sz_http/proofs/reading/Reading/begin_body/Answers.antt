use Rattle.sz_http.proofs.Taken.{body_first}
use Rattle.sz_http.proofs.reading.Reading.begin_body.Goals as goal

pub returns-in-Ok-clause-enters : goal.returns-in-Ok-clause-enters
returns-in-Ok-clause-enters c = λ side text sided taken is_head.
    let framed = c.in-Ok.ensures side text sided taken is_head in
    c.enter.ensures.enters side text framed.0 sided taken is_head framed.1

pub returns-in-Ok-clause-body : goal.returns-in-Ok-clause-body
returns-in-Ok-clause-body c = λ side text sided taken is_head.
    let framed = c.in-Ok.ensures side text sided taken is_head in
    body_first side c.args.self.now.limit text c.in-Ok.framing framed.0 framed.1
