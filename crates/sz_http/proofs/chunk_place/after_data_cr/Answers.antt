use Rattle.sz_http.proofs.ChunkSteps.{data_cr_refused_at, between_at}
use Rattle.sz_http.proofs.chunk_place.after_data_cr.Goals as goal

pub returns-then-byte-ne10-clause-refuses : goal.returns-then-byte-ne10-clause-refuses
returns-then-byte-ne10-clause-refuses c = λ tail part. data_cr_refused_at c.args.byte tail part c.if-byte-ne10.true

pub returns-clause-leads : goal.returns-clause-leads
returns-clause-leads c = λ tail part. between_at c.args.byte tail part c.if-byte-ne10.false
