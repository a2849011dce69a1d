use Rattle.std.proofs.Common.{None, Some, Ok, Err, refl}
use Rattle.sz_exchange.specs.Exchange.{MayAdd}
use Rattle.sz_offer.specs.Trial.{looker_of}
use Rattle.sz_walk.specs.Walk.{IsStep}
use Rattle.sz_walk.specs.declared.step.Step.TheVariants as step
use Rattle.sz_agent.specs.Choice.{TurnsFrom, Weighs}
use Rattle.sz_agent.specs.Lost.{counts_of}
use Rattle.sz_agent.specs.Quest.{quest_of}
use Rattle.sz_agent.specs.declared.choice.Choice.TheVariants as choice
use Rattle.sz_agent.specs.declared.choice.Offer.{Offer}
use Rattle.sz_agent.proofs.Counting.{lost_kept, lost_refused, lost_turn}
use Rattle.sz_agent.proofs.Turning.{refused_goes_on, told_both, told_weaker, turn_chosen, turn_passed, turn_refused, turn_short}
use Rattle.sz_agent.proofs.searching.turn.Goals as goal

pub refuse-requires : goal.refuse-requires
refuse-requires g c = record { offer = c.in-Offer.ensures.notes.offer.1 refl }

pub returns-in-Passed-clause-turns : goal.returns-in-Passed-clause-turns
returns-in-Passed-clause-turns g c = λ told same.
    let looker = looker_of (g.D.Disk.seen c.args.disk.now) c.args.held.now c.args.when in
    let quest = quest_of looker c.args.walk.now.sources told in
    told_weaker (IsStep quest.sources quest.search step.Passed c.args.walk.now.walked c.next.new.self.walked)
    (TurnsFrom quest None c.args.walk.now.walked c.next.new.self.walked)
    (λ x y is began come. turn_passed quest began x y c.args.walk.now.walked c.next.new.self.walked come
    c.requires.no_offer is) (g.N.Net.traffic c.args.net.now) (g.N.Net.traffic c.next.new.net)
    (c.in-Passed.ensures.step told same)

pub returns-in-Passed-clause-lost : goal.returns-in-Passed-clause-lost
returns-in-Passed-clause-lost g c = λ first lost.
    let noted = c.in-Passed.ensures.notes.visits in
    lost_turn first (g.F.Folder.faults c.args.folder.now) (g.F.Folder.faults c.next.new.folder)
    (g.N.Net.faults c.args.net.now) (g.N.Net.faults c.next.new.net) c.args.walk.now.walked c.next.new.self.walked noted.0
    noted.1 c.in-Passed.ensures.folder_lost c.in-Passed.ensures.net_lost lost

pub returns-in-OutOfMemory-clause-turns : goal.returns-in-OutOfMemory-clause-turns
returns-in-OutOfMemory-clause-turns g c = λ told same.
    let looker = looker_of (g.D.Disk.seen c.args.disk.now) c.args.held.now c.args.when in
    let quest = quest_of looker c.args.walk.now.sources told in
    told_weaker MayAdd (TurnsFrom quest (Some choice.OutOfMemory) c.args.walk.now.walked c.next.new.self.walked)
    (λ x y adds began come. turn_short quest began x y c.args.walk.now.walked c.next.new.self.walked come
    c.requires.no_offer adds c.in-OutOfMemory.ensures.notes.visits) (g.N.Net.traffic c.args.net.now)
    (g.N.Net.traffic c.next.new.net) c.in-OutOfMemory.ensures.adds

pub returns-in-Ok-clause-turns : goal.returns-in-Ok-clause-turns
returns-in-Ok-clause-turns g c = λ told same.
    let looker = looker_of (g.D.Disk.seen c.args.disk.now) c.args.held.now c.args.when in
    let quest = quest_of looker c.args.walk.now.sources told in
    let offer : Offer = record { onboarding = c.in-Offer.onboarding; evidence = c.in-Offer.evidence } in
    told_both (IsStep quest.sources quest.search (step.Offer c.in-Offer.onboarding c.in-Offer.evidence)
    c.args.walk.now.walked c.next.new.self.walked) (Weighs looker offer (Ok c.in-Ok.choice))
    (TurnsFrom quest (Some c.in-Ok.choice) c.args.walk.now.walked c.next.new.self.walked)
    (λ x y z offers weighs began come. turn_chosen quest began x y z c.args.walk.now.walked c.next.new.self.walked offer
    come c.requires.no_offer offers c.in-Ok.choice weighs) (g.N.Net.traffic c.args.net.now)
    (g.N.Net.traffic c.next.new.net) (g.N.Net.traffic c.weigh.new.net) (c.in-Offer.ensures.step told same)
    c.in-Ok.ensures.weighs

pub returns-in-Ok-clause-lost : goal.returns-in-Ok-clause-lost
returns-in-Ok-clause-lost g c = λ first lost.
    let noted = c.in-Offer.ensures.notes.visits in
    lost_kept first (g.F.Folder.faults c.next.new.folder) (g.N.Net.faults c.next.new.net) (g.N.Net.faults c.weigh.new.net)
    c.next.new.self.walked.visits
    (lost_turn first (g.F.Folder.faults c.args.folder.now) (g.F.Folder.faults c.next.new.folder)
    (g.N.Net.faults c.args.net.now) (g.N.Net.faults c.next.new.net) c.args.walk.now.walked c.next.new.self.walked noted.0
    noted.1 c.in-Offer.ensures.folder_lost c.in-Offer.ensures.net_lost lost) c.in-Ok.ensures.lost.kept

pub returns-in-Err-clause-turns : goal.returns-in-Err-clause-turns
returns-in-Err-clause-turns g c = λ told same.
    let looker = looker_of (g.D.Disk.seen c.args.disk.now) c.args.held.now c.args.when in
    let quest = quest_of looker c.args.walk.now.sources told in
    let offer : Offer = record { onboarding = c.in-Offer.onboarding; evidence = c.in-Offer.evidence } in
    told_both (IsStep quest.sources quest.search (step.Offer c.in-Offer.onboarding c.in-Offer.evidence)
    c.args.walk.now.walked c.next.new.self.walked) (Weighs looker offer (Err c.in-Err.reason))
    (TurnsFrom quest None c.args.walk.now.walked c.refuse.new.self.walked)
    (λ x y z offers weighs began come. turn_refused quest began x y z c.args.walk.now.walked c.next.new.self.walked offer
    come c.requires.no_offer offers c.in-Err.reason c.refuse.new.self.walked weighs c.refuse.ensures.noted)
    (g.N.Net.traffic c.args.net.now) (g.N.Net.traffic c.next.new.net) (g.N.Net.traffic c.weigh.new.net)
    (c.in-Offer.ensures.step told same) c.in-Err.ensures.weighs

pub returns-in-Err-clause-goes_on : goal.returns-in-Err-clause-goes_on
returns-in-Err-clause-goes_on g c =
    let notes = c.in-Offer.ensures.notes in
    refused_goes_on c.args.walk.now c.next.new.self c.refuse.new.self c.weigh.new.buffer c.in-Err.reason notes.visits.0
    notes.sources c.refuse.ensures.sources notes.visits.1 notes.within c.refuse.ensures.noted c.refuse.ensures.no_offer
    c.in-Err.ensures.side

pub returns-in-Err-clause-lost : goal.returns-in-Err-clause-lost
returns-in-Err-clause-lost g c = λ first lost.
    let noted = c.in-Offer.ensures.notes.visits in
    let offered = lost_turn first (g.F.Folder.faults c.args.folder.now) (g.F.Folder.faults c.next.new.folder)
    (g.N.Net.faults c.args.net.now) (g.N.Net.faults c.next.new.net) c.args.walk.now.walked c.next.new.self.walked noted.0
    noted.1 c.in-Offer.ensures.folder_lost c.in-Offer.ensures.net_lost lost in
    let kept = lost_kept first (g.F.Folder.faults c.next.new.folder) (g.N.Net.faults c.next.new.net)
    (g.N.Net.faults c.weigh.new.net) c.next.new.self.walked.visits offered c.in-Err.ensures.lost.kept in
    lost_refused first (counts_of (g.F.Folder.faults c.next.new.folder) (g.N.Net.faults c.weigh.new.net)) c.in-Err.reason
    c.next.new.self.walked c.refuse.new.self.walked c.refuse.ensures.noted c.in-Err.ensures.lost.not_lost kept
