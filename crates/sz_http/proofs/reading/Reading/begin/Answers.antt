use Rattle.std.proofs.Common.{[], refl, subst}
use Rattle.sz_http.specs.declared.kind.Kind.{Kind}
use Rattle.sz_http.specs.HeadReading.{Takes as TakesHead}
use Rattle.sz_http.proofs.Taken.{takes_first}
use Rattle.sz_http.proofs.reading.Reading.begin.Goals as goal

pub returns : goal.returns
returns c =
    takes_first _ c.args.self.now.side c.args.limit refl refl refl
    (subst (λ (k : Kind). TakesHead c.begin.new.self k []) c.kind.ensures c.begin.ensures)
