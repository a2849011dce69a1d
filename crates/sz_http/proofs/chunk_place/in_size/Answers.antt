use Rattle.std.proofs.Common.{sym}
use Rattle.sz_http.proofs.ChunkSteps.{digit_at, full_at}
use Rattle.sz_http.proofs.chunk_place.in_size.Goals as goal

pub returns-in-Some-with-clause-leads : goal.returns-in-Some-with-clause-leads
returns-in-Some-with-clause-leads c = λ tail part.
    digit_at c.args.size c.in-Some-with.more c.args.byte c.in-Some.digit tail part (sym c.in-Some.ensures.found) c.in-Some.ensures.value.0
    c.in-Some-with.ensures.value c.in-Some-with.ensures.count

pub returns-in-None-clause-refuses : goal.returns-in-None-clause-refuses
returns-in-None-clause-refuses c = λ tail part.
    full_at c.args.size c.args.byte tail part (sym c.in-Some.ensures.found) c.in-None.ensures.full
