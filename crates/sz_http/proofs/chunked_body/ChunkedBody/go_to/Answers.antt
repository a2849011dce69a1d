use Rattle.std.proofs.Common.{subst}
use Rattle.sz_http.specs.declared.chunk_place.Place.{Place}
use Rattle.sz_http.specs.ChunkReading.{Stands}
use Rattle.sz_http.proofs.Bodies.{next_chunk, trailer_begins}
use Rattle.sz_http.proofs.chunked_body.ChunkedBody.go_to.Goals as goal

pub returns-in-Between-clause-came : goal.returns-in-Between-clause-came
returns-in-Between-clause-came c = λ bytes content stands.
    next_chunk c.none.result bytes content c.none.ensures.count c.none.ensures.value
    (subst (λ (p : Place). Stands p bytes content) c.in-Between.is stands)

pub returns-in-InTrailer-clause-came : goal.returns-in-InTrailer-clause-came
returns-in-InTrailer-clause-came c = λ bytes content stands.
    trailer_begins c.begin.new.self bytes content (subst (λ (p : Place). Stands p bytes content) c.in-InTrailer.is stands) c.begin.ensures
