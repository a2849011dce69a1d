use Rattle.std.proofs.Common.{◌+◌, arith, sym, subst, take, List, ℕ, option_copied}
use Rattle.sz_http.specs.Parts.{fields_of}
use Rattle.sz_http.specs.Framing.{Declare, Contradict, values, content_length}
use Rattle.sz_http.proofs.Values.{values_more}
use Rattle.sz_http.proofs.Lengths.{contradict_all}
use Rattle.sz_http.proofs.fields.declared_length.Goals as goal

pub loop-index-preserved : goal.loop-index-preserved
loop-index-preserved c =
    let fields = fields_of c.args.fields.now in
    let i = c.loop-index.index in
    subst (λ (t : List (List ℕ)). Declare t c.in-Ok.length)
    (sym (values_more content_length fields i (option_copied c.value_at-found.result) (omega arith) (c.value_at-found.ensures (omega arith))))
    (c.in-Ok.ensures.ok (values content_length (take i fields)) c.loop-index.invariant)

pub returns-in-Err-clause-err : goal.returns-in-Err-clause-err
returns-in-Err-clause-err c =
    let fields = fields_of c.args.fields.now in
    let i = c.loop-index.index in
    contradict_all fields (i + 1)
    (subst Contradict
    (sym (values_more content_length fields i (option_copied c.value_at-found.result) (omega arith) (c.value_at-found.ensures (omega arith))))
    (c.in-Err.ensures.err (values content_length (take i fields)) c.loop-index.invariant))
