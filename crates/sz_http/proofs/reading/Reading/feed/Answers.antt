use Rattle.std.proofs.Common.{refl}
use Rattle.sz_http.proofs.Steps.{takes_refused}
use Rattle.sz_http.proofs.Taken.{took_done}
use Rattle.sz_http.proofs.reading.Reading.feed.Goals as goal

pub returns-in-Failed-clause-answers : goal.returns-in-Failed-clause-answers
returns-in-Failed-clause-answers c = λ side limit before body takes.
    takes_refused c.args.self.now side limit before c.args.piece.now body c.in-Failed.fault c.in-Failed.is takes

pub returns-in-Done-clause-answers : goal.returns-in-Done-clause-answers
returns-in-Done-clause-answers c = λ side limit before body takes.
    took_done side limit before body c.args.piece.now c.args.self.now _ c.in-Done.is takes refl refl refl
