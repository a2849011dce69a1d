use Rattle.std.proofs.Common.{arith}
use Rattle.std.proofs.lemmas.Result.{err_from_is_err_and}
use Rattle.sz_dns.proofs.Steps.{question_more}
use Rattle.sz_dns.proofs.answer.skip_questions.Goals as goal

pub returns-in_err-left-clause-refused : goal.returns-in_err-left-clause-refused
returns-in_err-left-clause-refused c =
    let p = err_from_is_err_and c.from_residual.result c.from_residual.ensures.1 in
    rw (p.1, p.2)
    (λ kind place e.
    let found = c.in_err-left.ensures.refused kind place e in
    (c.questions.read, c.questions.left.now, c.questions-test.true, c.questions.invariant.questions, found.0, found.1))

pub questions-preserved : goal.questions-preserved
questions-preserved c = record {
  counted = omega arith;
  questions = question_more c.args.message.now c.questions.read c.args.body.now c.questions.left.now c.in_ok-left.left.now
      c.questions.invariant.questions c.in_ok-left.ensures.ok;
  within = omega (arith, c.in_ok-left.ensures.shorter, c.questions.invariant.within);
}
