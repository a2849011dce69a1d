use Rattle.std.specs.Int.{w16}
use Rattle.std.proofs.lemmas.Result.{err_from_is_err_and, IfErr-weaker}
use Rattle.sz_record.specs.Field.{bytes}
use Rattle.sz_record.proofs.Fields.{wrong_after_number, wrong_number}
use Rattle.sz_record.proofs.Numbers.{ok_both, text_taken}
use Rattle.sz_record.proofs.unread.Unread.text.Goals as goal

pub returns-in_err-size-clause-wrong : goal.returns-in_err-size-clause-wrong
returns-in_err-size-clause-wrong c =
    let p = err_from_is_err_and c.from_residual.result c.from_residual.ensures.1 in
    rw (p.1, p.2)
    (wrong_number w16 _ _ bytes c.in_err-size.ensures.wrong)

pub returns-clause-taken : goal.returns-clause-taken
returns-clause-taken c =
    ok_both c.take.result _ _ _ (λ read took is. text_taken _ _ _ _ _ _ _ c.in_ok-size.ensures.taken took is)
    c.take.ensures.taken c.take.ensures.count

pub returns-clause-wrong : goal.returns-clause-wrong
returns-clause-wrong c =
    IfErr-weaker c.take.result _ _ (λ wrong h. wrong_after_number bytes c.in_ok-size.ensures.taken h)
    c.take.ensures.wrong
