use Rattle.std.proofs.Common.{ℕ, List, Option, Ok, Err, refl, ap}
use Rattle.std.specs.Option.{option_copied}
use Rattle.sz_ask.proofs.Runs.{ran_moved}
use Rattle.sz_answer.proofs.Visits.{evidence_comes, fault_comes}
use Rattle.sz_answer.specs.Visit.{request_of, search_of}
use Rattle.sz_rest.specs.Request.{request_text}
use Rattle.sz_answer.proofs.Sound.{no_offer_sound}
use Rattle.sz_answer.proofs.visiting.visit_server.Goals as goal

pub returns-in-Ok-clause-came_to : goal.returns-in-Ok-clause-came_to
returns-in-Ok-clause-came_to g c = λ files.
    let target = c.args.target.now in
    let serial = c.args.identity.now.serial in
    let before = g.N.Net.traffic c.args.net.now in
    let now = g.N.Net.traffic c.ask.new.net in
    let request = request_of (search_of c.args.identity.now c.args.when files) target in
    let ran = ran_moved target (request_text target serial (option_copied c.as_ref.result)) request (Ok c.in-Ok.evidence)
    before now now (ap (λ (n : Option (List ℕ)). request_text target serial n) c.as_ref.ensures.value) refl
    c.in-Ok.ensures.ran in
    evidence_comes c.args.identity.now c.args.when target c.in-Ok.evidence c.judged.result before now files ran
    (c.judged.ensures.judged files)

pub returns-in-Err-clause-came_to : goal.returns-in-Err-clause-came_to
returns-in-Err-clause-came_to g c = λ files.
    let target = c.args.target.now in
    let serial = c.args.identity.now.serial in
    let before = g.N.Net.traffic c.args.net.now in
    let now = g.N.Net.traffic c.ask.new.net in
    let request = request_of (search_of c.args.identity.now c.args.when files) target in
    let ran = ran_moved target (request_text target serial (option_copied c.as_ref.result)) request (Err c.in-Err.fault)
    before now now (ap (λ (n : Option (List ℕ)). request_text target serial n) c.as_ref.ensures.value) refl
    c.in-Err.ensures.ran in
    fault_comes c.args.identity.now c.args.when target c.in-Err.fault c.refused_server.result before now files ran
    c.refused_server.ensures.refused

pub returns-in-Err-clause-sound : goal.returns-in-Err-clause-sound
returns-in-Err-clause-sound g c =
    no_offer_sound c.args.identity.now c.args.when c.refused_server.result c.refused_server.ensures.no_offer
