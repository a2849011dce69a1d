use Rattle.std.proofs.lemmas.Result.{err_from_is_err_and}
use Rattle.sz_rest.proofs.asked.read_request.Goals as goal

pub returns-in_err-image-clause-refused : goal.returns-in_err-image-clause-refused
returns-in_err-image-clause-refused c =
    let p = err_from_is_err_and c.from_residual-in_err-image.result c.from_residual-in_err-image.ensures.1 in
    rw (p.1, p.2) (c.in_err-image.ensures.refused c.args.body.now)
