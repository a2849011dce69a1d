use Rattle.sz_http.proofs.ChunksOnce.{chunked_once, part_not_whole}
use Rattle.sz_http.proofs.chunk_laws.chunked_bodies_read_once.Goals as goal

pub returns-clause-one : goal.returns-clause-one
returns-clause-one c = chunked_once

pub returns-clause-never_both : goal.returns-clause-never_both
returns-clause-never_both c = part_not_whole
