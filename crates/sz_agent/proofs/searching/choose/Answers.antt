use Rattle.std.proofs.Common.{◌≡◌, ◌*◌, ◌≤◌, List, length, None, Some, sym, ap, subst, ◌∙◌, refl, arith}
use Rattle.sz_offer.specs.Trial.{looker_of}
use Rattle.sz_source.specs.declared.source.Source.{Source}
use Rattle.sz_spec.specs.Told.{WhereTold}
use Rattle.sz_walk.specs.Visits.{first_walked, Walked}
use Rattle.sz_walk.specs.Walk.{most_notes, WalkState}
use Rattle.sz_agent.specs.Choice.{TurnsFrom}
use Rattle.sz_agent.specs.Lost.{counts_of, CountsLost}
use Rattle.sz_agent.specs.Quest.{Quest, quest_of}
use Rattle.sz_agent.proofs.Counting.{lost_none}
use Rattle.sz_agent.proofs.Sparing.{quest-same, spare-none, spare-spare}
use Rattle.sz_agent.proofs.Turning.{begun_told, turned_told}
use Rattle.sz_agent.proofs.searching.choose.Goals as goal

pub visits-init : goal.visits-init
visits-init g c =
    let sources = c.args.walk.now.sources in
    let first : c.args.walk.now.walked ≡ first_walked sources = ap (λ (w : WalkState). w.walked) c.requires.prepared.walk_is in
    let counts = counts_of (g.F.Folder.faults c.args.folder.now) (g.N.Net.faults c.args.net.now) in
    record {
      is_open = c.requires.open;
      no_offer = c.requires.prepared.no_offer;
      replies = c.requires.prepared.replies;
      sources = refl;
      within = subst (λ (w : Walked). length w.visits ≤ most_notes * length sources) (sym first) (omega arith);
      come = λ told same.
          begun_told (quest_of (looker_of (g.D.Disk.seen c.args.disk.now) c.args.held.now c.args.when) sources told)
          c.args.walk.now.walked (g.N.Net.traffic c.args.net.now) first;
      spare = spare-none (g.D.Disk.seen c.args.disk.now) c.args.held.now c.requires.open.found;
      faults = refl;
      lost = subst (λ (w : Walked). CountsLost counts counts w.visits) (sym first) (lost_none counts);
      files = refl;
    }

pub returns-in-Some-clause-ends : goal.returns-in-Some-clause-ends
returns-in-Some-clause-ends g c = λ told same.
    let quest = quest_of (looker_of (g.D.Disk.seen c.args.disk.now) c.args.held.now c.args.when) c.args.walk.now.sources told in
    turned_told quest (Some c.in-Some.choice) c.visits.walk.walked c.turn-chosen.new.walk.walked
    (g.N.Net.traffic c.args.net.now) (g.N.Net.traffic c.visits.net) (g.N.Net.traffic c.turn-chosen.new.net)
    (c.visits.invariant.come told same)
    (subst (λ (q : Quest). WhereTold (TurnsFrom q (Some c.in-Some.choice) c.visits.walk.walked
    c.turn-chosen.new.walk.walked) (g.N.Net.traffic c.visits.net) (g.N.Net.traffic c.turn-chosen.new.net))
    (quest-same (g.D.Disk.seen c.args.disk.now) (g.D.Disk.seen c.visits.disk) c.args.held.now c.args.when
    c.args.walk.now.sources c.visits.walk.sources told c.visits.invariant.spare c.visits.invariant.sources)
    (c.in-Some.ensures.turns told (c.visits.invariant.files ∙ same)))

pub returns-in-Some-clause-spare : goal.returns-in-Some-clause-spare
returns-in-Some-clause-spare g c =
    spare-spare (g.D.Disk.seen c.args.disk.now) (g.D.Disk.seen c.visits.disk) (g.D.Disk.seen c.turn-chosen.new.disk)
    c.args.held.now c.visits.invariant.spare c.in-Some.ensures.spare

pub returns-in-Some-clause-lost : goal.returns-in-Some-clause-lost
returns-in-Some-clause-lost g c =
    c.in-Some.ensures.lost (counts_of (g.F.Folder.faults c.args.folder.now) (g.N.Net.faults c.args.net.now))
    c.visits.invariant.lost

pub visits-preserved : goal.visits-preserved
visits-preserved g c =
    let quest = quest_of (looker_of (g.D.Disk.seen c.args.disk.now) c.args.held.now c.args.when) c.args.walk.now.sources in
    let goes_on = c.in_default.ensures.goes_on in
    record {
      is_open = record { found = c.in_default.ensures.spare.found; uncommitted = c.visits.invariant.is_open.uncommitted };
      no_offer = goes_on.no_offer;
      replies = goes_on.replies;
      sources = goes_on.sources ∙ c.visits.invariant.sources;
      within = subst (λ (s : List Source). length c.turn-chosen.new.walk.walked.visits ≤ most_notes * length s)
          (sym goes_on.sources) goes_on.within;
      come = λ told same.
          turned_told (quest told) None c.visits.walk.walked c.turn-chosen.new.walk.walked
          (g.N.Net.traffic c.args.net.now) (g.N.Net.traffic c.visits.net) (g.N.Net.traffic c.turn-chosen.new.net)
          (c.visits.invariant.come told same)
          (subst (λ (q : Quest). WhereTold (TurnsFrom q None c.visits.walk.walked c.turn-chosen.new.walk.walked)
          (g.N.Net.traffic c.visits.net) (g.N.Net.traffic c.turn-chosen.new.net))
          (quest-same (g.D.Disk.seen c.args.disk.now) (g.D.Disk.seen c.visits.disk) c.args.held.now c.args.when
          c.args.walk.now.sources c.visits.walk.sources told c.visits.invariant.spare c.visits.invariant.sources)
          (c.in_default.ensures.turns told (c.visits.invariant.files ∙ same)));
      spare = spare-spare (g.D.Disk.seen c.args.disk.now) (g.D.Disk.seen c.visits.disk)
          (g.D.Disk.seen c.turn-chosen.new.disk) c.args.held.now c.visits.invariant.spare c.in_default.ensures.spare;
      faults = c.in_default.ensures.disk_fault.stood refl ∙ c.visits.invariant.faults;
      lost = c.in_default.ensures.lost (counts_of (g.F.Folder.faults c.args.folder.now) (g.N.Net.faults c.args.net.now))
          c.visits.invariant.lost;
      files = c.in_default.ensures.unchanged ∙ c.visits.invariant.files;
    }
