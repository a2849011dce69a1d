use Rattle.std.proofs.Common.{ℕ, [], ◌∷◌, ◌++◌, ◌+◌, length, ap, ◌∙◌}
use Rattle.sz_http.proofs.Bodies.{stands_after, stands_of, line_refused}
use Rattle.sz_http.proofs.chunked_body.ChunkedBody.take_line_byte.Goals as goal

pub returns-in-Ok-clause-ok : goal.returns-in-Ok-clause-ok
returns-in-Ok-clause-ok c = λ limit bytes content takes.
    let self = c.args.self.now in
    record {
      limited = c.go_to.ensures.limit ∙ takes.limited;
      going = c.go_to.ensures.failed ∙ takes.going;
      room = ap (λ (n : ℕ). length content + n) c.go_to.ensures.room ∙ takes.room;
      came = c.go_to.ensures.came (bytes ++ c.args.byte ∷ []) content
          (stands_after self.place c.in-Ok.next c.args.byte bytes content
          (stands_of self.trailer self.place bytes content c.requires takes.came) c.in-Ok.ensures.leads);
    }

pub returns-in-Err-clause-err : goal.returns-in-Err-clause-err
returns-in-Err-clause-err c = λ limit bytes content takes.
    let self = c.args.self.now in
    line_refused self.trailer self.place c.args.byte c.in-Err.fault limit bytes content c.requires takes.came c.in-Err.ensures.refuses
