use Rattle.std.proofs.lemmas.Result.{err_from_is_err_and}
use Rattle.sz_record.proofs.Fields.{takes_alone, takes_next, takes_none, wrong_first, wrong_next}
use Rattle.sz_record.specs.Spelling.{image_bytes}
use Rattle.sz_record.specs.Stored.{image_field}
use Rattle.sz_record.proofs.reading.read_image.Goals as goal

pub returns-clause-taken : goal.returns-clause-taken
unfolding image_bytes image_field
returns-clause-taken c =
    takes_next (takes_alone c.in_ok-area.ensures.taken)
    (takes_next (takes_alone c.in_ok-size.ensures.taken)
    (takes_next c.in_ok-hash.ensures.taken
    (takes_next c.in_ok-when.ensures.taken
    (takes_next c.in_ok-evidence.ensures.taken
    (takes_none _)))))

pub returns-in_err-area-clause-wrong : goal.returns-in_err-area-clause-wrong
unfolding image_field
returns-in_err-area-clause-wrong c =
    let p = err_from_is_err_and c.from_residual.result c.from_residual.ensures.1 in
    rw (p.1, p.2)
    (wrong_first _ c.in_err-area.ensures.wrong)

pub returns-in_err-size-clause-wrong : goal.returns-in_err-size-clause-wrong
unfolding image_field
returns-in_err-size-clause-wrong c =
    let p = err_from_is_err_and c.from_residual-in_err-size.result c.from_residual-in_err-size.ensures.1 in
    rw (p.1, p.2)
    (wrong_next (takes_alone c.in_ok-area.ensures.taken)
    (wrong_first _ c.in_err-size.ensures.wrong))

pub returns-in_err-hash-clause-wrong : goal.returns-in_err-hash-clause-wrong
unfolding image_field
returns-in_err-hash-clause-wrong c =
    let p = err_from_is_err_and c.from_residual-in_err-hash.result c.from_residual-in_err-hash.ensures.1 in
    rw (p.1, p.2)
    (wrong_next (takes_alone c.in_ok-area.ensures.taken)
    (wrong_next (takes_alone c.in_ok-size.ensures.taken)
    (wrong_first _ c.in_err-hash.ensures.wrong)))

pub returns-in_err-when-clause-wrong : goal.returns-in_err-when-clause-wrong
unfolding image_field
returns-in_err-when-clause-wrong c =
    let p = err_from_is_err_and c.from_residual-in_err-when.result c.from_residual-in_err-when.ensures.1 in
    rw (p.1, p.2)
    (wrong_next (takes_alone c.in_ok-area.ensures.taken)
    (wrong_next (takes_alone c.in_ok-size.ensures.taken)
    (wrong_next c.in_ok-hash.ensures.taken
    (wrong_first _ c.in_err-when.ensures.wrong))))

pub returns-in_err-evidence-clause-wrong : goal.returns-in_err-evidence-clause-wrong
unfolding image_field
returns-in_err-evidence-clause-wrong c =
    let p = err_from_is_err_and c.from_residual-in_err-evidence.result c.from_residual-in_err-evidence.ensures.1 in
    rw (p.1, p.2)
    (wrong_next (takes_alone c.in_ok-area.ensures.taken)
    (wrong_next (takes_alone c.in_ok-size.ensures.taken)
    (wrong_next c.in_ok-hash.ensures.taken
    (wrong_next c.in_ok-when.ensures.taken
    (wrong_first _ c.in_err-evidence.ensures.wrong)))))
