use Rattle.std.proofs.Common.{◌≡◌, List, sym, ap, subst}
use Rattle.sz_offer.specs.Trial.{looker_of}
use Rattle.sz_source.specs.declared.source.Source.{Source}
use Rattle.sz_spec.specs.Told.{WhereTold}
use Rattle.sz_walk.specs.Walk.{WalkState}
use Rattle.sz_walk.specs.declared.visit.Visit.{Visit}
use Rattle.sz_agent.specs.Choice.{EndsIdle}
use Rattle.sz_agent.specs.Quest.{quest_of}
use Rattle.sz_agent.proofs.Turning.{broken_told}
use Rattle.sz_agent.proofs.searching.search.Goals as goal

pub returns-in_default-clause-ends : goal.returns-in_default-clause-ends
returns-in_default-clause-ends g c = λ told same.
    broken_told (quest_of (looker_of (g.D.Disk.seen c.args.disk.now) c.args.held.now c.args.when) c.args.sources told)
    c.create.result (g.N.Net.traffic c.args.net.now) c.create.ensures

pub returns-clause-ends : goal.returns-clause-ends
returns-clause-ends g c = λ told same.
    let looker = looker_of (g.D.Disk.seen c.args.disk.now) c.args.held.now c.args.when in
    let sources : c.in-Ok.walk.sources ≡ c.args.sources = ap (λ (w : WalkState). w.sources) c.in-Ok.ensures.walk_is in
    subst (λ (visits : List Visit). WhereTold (EndsIdle (quest_of looker c.args.sources told) c.choose-choice.result visits)
    (g.N.Net.traffic c.args.net.now) (g.N.Net.traffic c.choose-choice.new.net)) (sym c.finish.ensures)
    (subst (λ (s : List Source). WhereTold (EndsIdle (quest_of looker s told) c.choose-choice.result
    c.choose-choice.new.walk.walked.visits) (g.N.Net.traffic c.args.net.now) (g.N.Net.traffic c.choose-choice.new.net))
    sources (c.choose-choice.ensures.ends told same))
