use Rattle.std.proofs.Common.{[], sym, subst}
use Rattle.sz_http.specs.declared.kind.Kind.{Kind}
use Rattle.sz_http.specs.declared.head_place.Place.TheVariants.{Line}
use Rattle.sz_http.specs.HeadPlace.{Stands}
use Rattle.sz_http.proofs.Stands.{first_stands, trailer_stands}
use Rattle.sz_http.proofs.head_place.Place.first.Goals as goal

pub returns-in-Request : goal.returns-in-Request
returns-in-Request c = first_stands c.args.kind c.in-Request.is

pub returns-in-Trailer : goal.returns-in-Trailer
returns-in-Trailer c = subst (λ (k : Kind). Stands k [] (Line 64)) (sym c.in-Trailer.is) trailer_stands
