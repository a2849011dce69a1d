-- What asking a server adds to the traffic, and what is heard in it.
use Rattle.std.specs.Prelude.{Bool, true, false, ℕ, List, Option, Result, Ok, Err}
use Rattle.sz_spec.specs.Told.{WhereTold}
use Rattle.sz_base.specs.declared.evidence.Evidence.{Evidence}
use Rattle.sz_base.specs.declared.target.Target.{Target}
use Rattle.sz_io.specs.Net.{Traffic}
use Rattle.sz_io.specs.declared.exchange.Exchange.{Exchange}
use Rattle.sz_exchange.specs.Exchange.{AddsOne, Hears, Loses, MayAdd}
use Rattle.sz_ask.specs.Coming.{HasCome}
use Rattle.sz_ask.specs.Reply.{TellsEvidence, TellsFault}
use Rattle.sz_ask.specs.declared.fault.ServerFault.{ServerFault}
use Rattle.sz_ask.specs.declared.fault.ServerFault.TheVariants as server
use Rattle.sz_ask.specs.declared.incoming.Incoming.{Incoming}

-- the exchange with the server gives this answer
abbrev pub HearsReply : Target → List ℕ → Exchange → Result Evidence ServerFault → Type 0
HearsReply target request exchange (Ok evidence) =
    Hears target request (λ bytes closed. TellsEvidence bytes closed evidence) exchange
HearsReply target request exchange (Err server.Lost) = Loses target request exchange
HearsReply target request exchange (Err server.OutOfMemory) = ⊥
HearsReply target request exchange (Err fault) =
    Hears target request (λ bytes closed. TellsFault bytes closed fault) exchange

-- where the network tells it: one exchange was added, and gives this answer; where memory ran out, at most one was
abbrev pub Ran : Target → List ℕ → Result Evidence ServerFault → Option Traffic → Option Traffic → Type 0
Ran target request (Err server.OutOfMemory) before now = WhereTold MayAdd before now
Ran target request answer before now =
    WhereTold (AddsOne (λ exchange. HearsReply target request exchange answer)) before now

-- the same, where the reply has come whole or is refused
abbrev pub RanTo : {U : Type 0} → Target → List ℕ → Result U ServerFault → Incoming → Option Traffic → Option Traffic
    → Type 0
RanTo target request (Ok unit) incoming before now =
    WhereTold (AddsOne (Hears target request (λ bytes closed. HasCome incoming bytes closed))) before now
RanTo target request (Err fault) incoming before now = Ran target request (Err fault) before now

-- whether an answer says that the network failed
abbrev pub blames_net : {T : Type 0} → Result T ServerFault → Bool
blames_net (Err server.Lost) = true
blames_net _ = false
