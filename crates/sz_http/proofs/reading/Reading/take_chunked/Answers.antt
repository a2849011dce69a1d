use Rattle.std.proofs.Common.{◌++◌, false, refl, sym, ap, ◌∙◌, subst, take, Ok}
use Rattle.std.proofs.lemmas.Bool.{cases_Bool}
use Rattle.sz_http.specs.declared.framing.Framing.TheVariants.{Chunks}
use Rattle.sz_http.specs.declared.fault.HttpFault.{HttpFault}
use Rattle.sz_http.specs.declared.reading.Reading.{Reading}
use Rattle.sz_http.specs.declared.reading.Stage.{Stage}
use Rattle.sz_http.specs.declared.reading.Stage.TheVariants.{Failed}
use Rattle.sz_http.specs.Reading.{Stands}
use Rattle.sz_http.specs.Verdict.{chunk_fault}
use Rattle.sz_http.proofs.Steps.{IsGoing, chunks_refused, stands_chunked, takes_framed}
use Rattle.sz_http.proofs.Taken.{refuses_framed, took_some}
use Rattle.sz_http.proofs.reading.Reading.take_chunked.Goals as goal

pub returns-in-Ok-clause-answers : goal.returns-in-Ok-clause-answers
returns-in-Ok-clause-answers c = λ side limit before body takes.
    let self = c.args.self.now in
    let piece = c.args.piece.now in
    let fed = c.in-Ok.fed in
    let here = (subst (λ (s : Stage). Stands s self side limit before false body) c.requires takes.stands).1 in
    let took = c.in-Ok.ensures.answers limit here.1 body here.3 in
    let stage = c.chunked-self.ensures in
    took_some side limit before body piece _ _ took.within
    (takes_framed self _ side limit before (take fed.used piece) body (body ++ fed.body.now) (Ok Chunks) here.0 here.1
    (record { side = refl; limit = refl; head = refl }) takes here.2
    (stands_chunked c.chunked-self.result _ side limit before body here.1 piece here.0 fed here.2 took stage.whole stage.more (cases_Bool fed.done)))
    stage.whole (λ e. subst IsGoing (sym (stage.more e)) tt) took.moves

pub returns-in-Err-clause-answers : goal.returns-in-Err-clause-answers
returns-in-Err-clause-answers c = λ side limit before body takes.
    let self = c.args.self.now in
    let piece = c.args.piece.now in
    let here = (subst (λ (s : Stage). Stands s self side limit before false body) c.requires takes.stands).1 in
    let refused = c.in-Err.ensures.answers limit here.1 body here.3 in
    let new = c.refuse.ensures.1 in
    refuses_framed self c.refuse.new.self side limit before piece body (Ok Chunks) here.0 here.1 (chunk_fault c.in-Err.fault) c.refuse.result
    (record {
      side = ap (λ (r : Reading). r.side) new;
      limit = ap (λ (r : Reading). r.limit) new;
      head = ap (λ (r : Reading). r.head) new;
    })
    (ap (λ (r : Reading). r.stage) new ∙ ap (λ (f : HttpFault). Failed f) c.of_chunks.ensures) (c.refuse.ensures.0 ∙ c.of_chunks.ensures) takes here.2
    (chunks_refused side limit before here.1 piece here.0 c.in-Err.fault here.2 refused)
