use Rattle.std.proofs.Common.{◌≡◌, [], arith}
use Rattle.std.proofs.lemmas.Grind.{common_steps}
use Rattle.std.specs.Option.{option_map}
use Rattle.sz_spec.specs.Told.{WhereTold}
use Rattle.sz_io.specs.Net.{after_close, after_refused_connect, Sends}
use Rattle.sz_io.specs.declared.exchange.ExchangeEnd.TheVariants.{Open}
use Rattle.sz_exchange.specs.Exchange.{IsAsking}
use Rattle.sz_exchange.proofs.Askings.{connect_lost, connect_unsent, on_ok, send_lost, send_unsent, sent_whole}
use Rattle.sz_exchange.proofs.opening.open.Goals as goal

pub returns-in-Err-clause-lost : goal.returns-in-Err-clause-lost
returns-in-Err-clause-lost g c = λ is.
    let before = g.N.Net.traffic c.args.net.now in
    let now = g.N.Net.traffic c.connect.new.self in
    let failed : now ≡ option_map (after_refused_connect c.args.target.now) before = grind (arith, common_steps) in
    connect_lost c.args.target.now c.args.request.now before now failed

pub returns-in-Err-clause-no_memory : goal.returns-in-Err-clause-no_memory
returns-in-Err-clause-no_memory g c = λ is.
    let before = g.N.Net.traffic c.args.net.now in
    let now = g.N.Net.traffic c.connect.new.self in
    let left : now ≡ option_map after_close before = grind (arith, common_steps) in
    connect_unsent before now left

pub returns-in-Ok-clause-ok : goal.returns-in-Ok-clause-ok
returns-in-Ok-clause-ok g c =
    let target = c.args.target.now in
    let request = c.args.request.now in
    let before = g.N.Net.traffic c.args.net.now in
    let middle = g.N.Net.traffic c.connect.new.self in
    let now = g.N.Net.traffic c.send.new.self in
    on_ok (WhereTold (Sends request) middle now) (WhereTold (IsAsking target request [] Open) before now) c.send.result
    (λ sent. sent_whole target request before middle now c.in-Ok.ensures.ok sent) c.send.ensures.ok

pub returns-in-Ok-clause-lost : goal.returns-in-Ok-clause-lost
returns-in-Ok-clause-lost g c = λ is.
    send_lost c.args.target.now c.args.request.now (g.N.Net.traffic c.args.net.now)
    (g.N.Net.traffic c.connect.new.self) (g.N.Net.traffic c.send.new.self) c.in-Ok.ensures.ok (c.send.ensures.failed is)

pub returns-in-Ok-clause-no_memory : goal.returns-in-Ok-clause-no_memory
returns-in-Ok-clause-no_memory g c = λ is.
    send_unsent c.args.target.now c.args.request.now (g.N.Net.traffic c.args.net.now)
    (g.N.Net.traffic c.connect.new.self) (g.N.Net.traffic c.send.new.self) c.in-Ok.ensures.ok (c.send.ensures.no_memory is)
