use Rattle.std.proofs.Common.{◌≡◌, ◌-◌, ◌*◌, ◌≤◌, length, None}
use Rattle.sz_http.specs.Reading.{side_of}
use Rattle.sz_http.specs.declared.side.Side.TheVariants as side
use Rattle.sz_walk.specs.Visits.{HasOffer}
use Rattle.sz_walk.specs.Walk.{most_notes, WhereBothTell}
use Rattle.sz_offer.specs.Trial.{looker_of, WritesSpare}
use Rattle.sz_agent.specs.Choice.{IsOpen}
use Rattle.sz_agent.specs.Lost.{CountsLost, counts_of}
use Rattle.sz_agent.specs.Quest.{HasCome, quest_of}
use Rattle.sz_agent.proofs.searching.choose.Given as goal

-- no offer was taken so far, and nothing failed on the disk
abbrev pub invariant-visits : goal.invariant-visits
invariant-visits g l = record {
  is_open : IsOpen (g.D.Disk.seen l.disk) l.held;
  no_offer : ¬ HasOffer l.walk.walked;
  replies : side_of l.buffer ≡ side.Reply;
  sources : l.walk.sources ≡ l.fn.walk.sources;
  within : length l.walk.walked.visits ≤ most_notes * length l.walk.sources;
  come : WhereBothTell (g.F.Folder.files l.fn.folder) (g.N.Net.traffic l.fn.net) (g.N.Net.traffic l.net)
      (λ files began now. began.standing ≡ None
      → HasCome (quest_of (looker_of (g.D.Disk.seen l.fn.disk) l.held l.when) l.fn.walk.sources files) began now
      l.walk.walked);
  spare : WritesSpare (g.D.Disk.seen l.fn.disk) (g.D.Disk.seen l.disk) l.held;
  faults : (g.D.Disk.seen l.disk).faults ≡ (g.D.Disk.seen l.fn.disk).faults;
  lost : CountsLost (counts_of (g.F.Folder.faults l.fn.folder) (g.N.Net.faults l.fn.net))
      (counts_of (g.F.Folder.faults l.folder) (g.N.Net.faults l.net)) l.walk.walked.visits;
  files : g.F.Folder.files l.folder ≡ g.F.Folder.files l.fn.folder;
}

-- each turn notes one visit more, and there are 33 a source at most
abbrev pub decreases-visits : goal.decreases-visits
decreases-visits g l = most_notes * length l.walk.sources - length l.walk.walked.visits
