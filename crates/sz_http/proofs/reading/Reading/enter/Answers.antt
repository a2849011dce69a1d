use Rattle.std.proofs.Common.{[], false, refl, subst, arith, Ok}
use Rattle.sz_http.specs.declared.framing.Framing.{Framing}
use Rattle.sz_http.proofs.ChunkParts.{nothing_part}
use Rattle.sz_http.specs.declared.reading.Reading.{Reading}
use Rattle.sz_http.specs.declared.reading.Stage.TheVariants.{Chunked}
use Rattle.sz_http.specs.Message.{IsFramed}
use Rattle.sz_http.specs.Reading.{Stands}
use Rattle.sz_http.proofs.Steps.{more_of, takes_head}
use Rattle.sz_http.proofs.reading.Reading.enter.Goals as goal

pub returns-in-Chunks-clause-enters : goal.returns-in-Chunks-clause-enters
returns-in-Chunks-clause-enters c = λ side text head sided taken is_head framed.
    let new : Reading = record c.args.self.now { chunks = c.begin.new.self; stage = Chunked } in
    let limit = c.args.self.now.limit in
    let here = subst (λ (f : Framing). IsFramed side limit text (Ok f) head []) c.in-Chunks.is framed in
    let stands : Stands Chunked new side limit text false [] = (refl, (head, [], here, c.begin.ensures, nothing_part, omega arith)) in
    (takes_head new side text sided taken is_head stands, more_of Chunked new side limit text [] tt stands)
