use Rattle.std.proofs.Common.{ℕ, List, [], sym, subst}
use Rattle.std.proofs.lemmas.Slice.Eq.{bytes_eq-Decides}
use Rattle.sz_spec.specs.Told.{WhereTold}
use Rattle.sz_io.specs.declared.exchange.ExchangeEnd.TheVariants.{Open}
use Rattle.sz_exchange.specs.Exchange.{IsAsking}
use Rattle.sz_image.proofs.Comings.{brings_of}
use Rattle.sz_image.proofs.download.exchange.Goals as goal

pub returns-in-Ok-receive-clause-ok : goal.returns-in-Ok-receive-clause-ok
returns-in-Ok-receive-clause-ok g c =
    let same = (bytes_eq-Decides c.in-Ok-receive.found c.args.hash.now).0 (sym c.if-eq.ensures) in
    let asking =
    subst (λ (sent : List ℕ). WhereTold (IsAsking c.args.uri.now.target sent [] Open) (g.N.Net.traffic c.args.net.now) (g.N.Net.traffic c.open.new.net))
    c.requires.1 c.in-Ok.ensures.ok in
    brings_of c.args.uri.now c.args.hash.now c.in-Ok-receive.found c.used.result (g.R.Room.held c.args.room.now) (g.R.Room.held c.restart.new.self)
    (g.R.Room.held c.receive.new.room) (g.N.Net.traffic c.args.net.now) _ c.restart.ensures.restarted
    (c.in-Ok-receive.ensures.ok c.args.uri.now (g.N.Net.traffic c.args.net.now) asking) same c.used.ensures
