use Rattle.std.proofs.Common.{◌≡◌, ℕ, List, [], Option}
use Rattle.sz_spec.specs.Told.{WhereTold}
use Rattle.sz_base.specs.declared.target.Target.{Target}
use Rattle.sz_io.specs.Net.{Traffic}
use Rattle.sz_io.specs.declared.exchange.ExchangeEnd.TheVariants.{Open}
use Rattle.sz_ask.specs.Coming.{IsComing}
use Rattle.sz_exchange.specs.Exchange.{IsAsking}
use Rattle.sz_ask.proofs.asking.receive.Given as goal

-- these bytes were received, which aren't the whole reply
abbrev pub invariant-pieces : goal.invariant-pieces
invariant-pieces g l = record {
  coming : (bytes : List ℕ) × IsComing l.incoming bytes
      × ((target : Target) (request : List ℕ) (before : Option Traffic)
      → WhereTold (IsAsking target request [] Open) before (g.N.Net.traffic l.fn.net)
      → WhereTold (IsAsking target request bytes Open) before (g.N.Net.traffic l.net));
  faults : g.N.Net.faults l.net ≡ g.N.Net.faults l.fn.net;
}
