use Rattle.std.proofs.Common.{List, ℕ, [], sym, subst}
use Rattle.std.proofs.lemmas.Result.{IfOk-weaker}
use Rattle.sz_rest.proofs.ReadsBack.{refuses}
use Rattle.sz_rest.proofs.Statuses.{refusal_known}
use Rattle.sz_rest.specs.ReplyText.{IsReplyOf, status_line}
use Rattle.sz_rest.proofs.reply.write_refusal.Goals as goal

pub returns-clause-written : goal.returns-clause-written
returns-clause-written c =
    let lines = rw c.in-Ok.ensures.1 at c.in_ok-lines.ensures in
    IfOk-weaker c.finish.result _ _ (λ text h. h.whole (status_line c.args.status) [] lines) c.finish.ensures

pub returns-clause-refuses : goal.returns-clause-refuses
returns-clause-refuses c =
    let lines = rw c.in-Ok.ensures.1 at c.in_ok-lines.ensures in
    IfOk-weaker c.finish.result _ _
    (λ text h. subst (λ (t : List ℕ). IsReplyOf c.args.status t) (sym (h.whole (status_line c.args.status) [] lines))
    (refuses c.args.status (refusal_known c.args.status c.requires)))
    c.finish.ensures
