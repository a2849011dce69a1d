use Rattle.std.proofs.Common.{List, ℕ, [], ◌∷◌, codes, refl, sym, ap, ◌∙◌, subst}
use Rattle.std.proofs.lemmas.Result.{IfOk-weaker}
use Rattle.sz_rest.proofs.Fields.{pushed}
use Rattle.sz_rest.proofs.ReadsBack.{replies}
use Rattle.sz_rest.specs.Message.{message_text, yang_json}
use Rattle.sz_rest.specs.Reply.{ReplyOf}
use Rattle.sz_rest.specs.ReplyText.{IsReplyWith, status_line}
use Rattle.sz_rest.proofs.reply.write_reply.Goals as goal

pub returns-clause-written : goal.returns-clause-written
returns-clause-written c =
    let lines = pushed (status_line 200) [] (codes "Content-Type") yang_json _ _ _ c.in_ok-lines.ensures c.in_ok-push_field.ensures refl in
    let fields = (codes "Content-Type", yang_json) ∷ [] in
    IfOk-weaker c.finish.result _ _
    (λ text h. h.whole (status_line 200) fields lines
    ∙ ap (λ (body : List ℕ). message_text (status_line 200) fields body) (c.as_slice.ensures ∙ c.in_ok-body.ensures.compact))
    c.finish.ensures

pub returns-clause-replies : goal.returns-clause-replies
returns-clause-replies c =
    let evidence = c.args.evidence.now in
    let lines = pushed (status_line 200) [] (codes "Content-Type") yang_json _ _ _ c.in_ok-lines.ensures c.in_ok-push_field.ensures refl in
    let reply = subst (λ (body : List ℕ). ReplyOf body evidence) (sym c.as_slice.ensures) c.in_ok-body.ensures.replies in
    IfOk-weaker c.finish.result _ _
    (λ text h. subst (λ (t : List ℕ). IsReplyWith evidence t)
    (sym (h.whole (status_line 200) ((codes "Content-Type", yang_json) ∷ []) lines))
    (replies evidence c.as_slice.result.now h.length_fits reply))
    c.finish.ensures
