use Rattle.sz_http.proofs.ChunkSteps.{data_end_refused_at}
use Rattle.sz_http.proofs.chunk_place.after_data.Goals as goal

pub returns-then-byte-ne13-clause-refuses : goal.returns-then-byte-ne13-clause-refuses
returns-then-byte-ne13-clause-refuses c = λ tail part. data_end_refused_at c.args.byte tail part c.if-byte-ne13.true
