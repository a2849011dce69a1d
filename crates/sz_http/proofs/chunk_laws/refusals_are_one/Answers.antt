use Rattle.sz_http.proofs.Refusals.{refused_once, refused_not_part, refused_not_whole}
use Rattle.sz_http.proofs.chunk_laws.refusals_are_one.Goals as goal

pub returns-clause-one : goal.returns-clause-one
returns-clause-one c = refused_once

pub returns-clause-no_part : goal.returns-clause-no_part
returns-clause-no_part c = refused_not_part

pub returns-clause-no_body : goal.returns-clause-no_body
returns-clause-no_body c = refused_not_whole
