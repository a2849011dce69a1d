use Rattle.sz_http.proofs.ChunkSteps.{cr_refused_at, trailer_at, data_at}
use Rattle.sz_http.proofs.chunk_place.after_line.Goals as goal

pub returns-then-byte-ne10-clause-refuses : goal.returns-then-byte-ne10-clause-refuses
returns-then-byte-ne10-clause-refuses c = λ tail part. cr_refused_at c.args.size c.args.byte tail part c.if-byte-ne10.true

pub returns-then-size-eq0-clause-leads : goal.returns-then-size-eq0-clause-leads
returns-then-size-eq0-clause-leads c = λ tail part. trailer_at c.args.size c.args.byte tail part c.if-byte-ne10.false c.if-size-eq0.true

pub returns-clause-leads : goal.returns-clause-leads
returns-clause-leads c = λ tail part. data_at c.args.size c.args.byte tail part c.if-byte-ne10.false c.if-size-eq0.false
