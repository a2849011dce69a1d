use Rattle.std.proofs.Common.{◌++◌, false, refl, sym, ap, ◌∙◌, subst}
use Rattle.sz_http.specs.declared.head_reading.HeadReading.{HeadReading}
use Rattle.sz_http.specs.HeadReading.{Takes as TakesHead}
use Rattle.sz_http.specs.declared.reading.Reading.{Reading}
use Rattle.sz_http.specs.declared.reading.Stage.{Stage}
use Rattle.sz_http.specs.Message.{kind_of}
use Rattle.sz_http.specs.Reading.{Stands}
use Rattle.sz_http.proofs.Taken.{refuses_head, refuses_never, took_head, took_in_head}
use Rattle.sz_http.proofs.reading.Reading.take_head.Goals as goal

pub returns-in-Ok-More-clause-answers : goal.returns-in-Ok-More-clause-answers
returns-in-Ok-More-clause-answers c = λ side limit before body takes.
    let self = c.args.self.now in
    let here = subst (λ (s : Stage). Stands s self side limit before false body) c.requires takes.stands in
    took_in_head side limit before body c.args.piece.now c.in-Ok-More.field-0 _ _ takes.sided takes.limited c.requires here.3 refl refl refl
    c.in-Ok-More.field-0-is (c.in-Ok-More.ensures.answers (kind_of side) before here.1)

pub returns-in-Ok-clause-answers : goal.returns-in-Ok-clause-answers
returns-in-Ok-clause-answers c = λ side limit before body takes.
    let self = c.args.self.now in
    let here = subst (λ (s : Stage). Stands s self side limit before false body) c.requires takes.stands in
    took_head side limit self.limit c.in-Ok-Whole.used before body c.args.piece.now c.in-Ok-Whole.field-0 c.feed.new.self _ _ takes.limited here.3
    here.2.none c.in-Ok-Whole.field-0-is refl refl (c.in-Ok-Whole.ensures.answers (kind_of side) before here.1)
    (λ taken is_head. c.in-Ok.ensures.enters side _ takes.sided taken is_head) (λ taken is_head. c.in-Ok.ensures.body side _ takes.sided taken is_head)

pub returns-in-Err-begin_body-clause-answers : goal.returns-in-Err-begin_body-clause-answers
returns-in-Err-begin_body-clause-answers c = λ side limit before body takes.
    let self = c.args.self.now in
    let here = subst (λ (s : Stage). Stands s self side limit before false body) c.requires takes.stands in
    refuses_head side limit self.limit c.in-Ok-Whole.used before body c.args.piece.now c.in-Ok-Whole.field-0 c.feed.new.self _ _ takes.limited here.3
    c.in-Ok-Whole.field-0-is (c.in-Ok-Whole.ensures.answers (kind_of side) before here.1)
    (λ taken is_head. c.in-Err-begin_body.ensures.enters side _ takes.sided taken is_head)

pub returns-in-Err-clause-answers : goal.returns-in-Err-clause-answers
returns-in-Err-clause-answers c = λ side limit before body takes.
    let self = c.args.self.now in
    let piece = c.args.piece.now in
    let here = subst (λ (s : Stage). Stands s self side limit before false body) c.requires takes.stands in
    let refused = c.in-Err.ensures.answers (kind_of side) before here.1 in
    let new = c.refuse.ensures.1 in
    let same = ap (λ (r : Reading). r.head) new in
    refuses_never side limit (before ++ piece) body c.refuse.new.self c.refuse.result (ap (λ (r : Reading). r.side) new ∙ takes.sided)
    (ap (λ (r : Reading). r.limit) new ∙ takes.limited) (ap (λ (r : Reading). r.stage) new) c.refuse.ensures.0
    (subst (λ (h : HeadReading). TakesHead h (kind_of side) (before ++ piece)) (sym same) refused.taken) refused.never
