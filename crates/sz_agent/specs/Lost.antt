-- How often the counts of the folder and of the network rose for visits that were lost.
use Rattle.std.specs.Prelude.{◌≡◌, ◌≢◌, ℕ, List, Result, Ok, Err, count_by}
use Rattle.sz_evidence.specs.declared.reason.Reason.{Reason}
use Rattle.sz_evidence.specs.declared.reason.Reason.TheVariants as reason
use Rattle.sz_spec.specs.Cause.{RoseBy}
use Rattle.sz_walk.specs.Visits.{was_lost_file, was_lost_server}
use Rattle.sz_walk.specs.declared.visit.Visit.{Visit}
use Rattle.sz_agent.specs.declared.choice.Choice.{Choice}

-- the counts of faults of the folder and of the network
pub record Counts : Type 0 where
  pub folder : ℕ
  pub net : ℕ

abbrev pub counts_of : ℕ → ℕ → Counts
counts_of folder net = record { folder = folder; net = net }

-- The folder's count rose for each of these visits of storage and of files that was lost, and for nothing else; the
-- network's rose for each of these visits of servers that was lost.
pub record CountsLost (before now : Counts) (visits : List Visit) : Type 0 where
  pub files : RoseBy before.folder now.folder (count_by was_lost_file visits)
  pub files_stood : count_by was_lost_file visits ≡ 0 → now.folder ≡ before.folder
  pub servers : RoseBy before.net now.net (count_by was_lost_server visits)

-- an offer is turned down for another reason than that its visit was lost
abbrev pub IsNotLost : Result Choice Reason → Type 0
IsNotLost (Ok chosen) = Unit {0}
IsNotLost (Err found) = found ≢ reason.Lost

-- the trial of an offer keeps what the network's count rose by, and loses no visit
pub record WeighingLost (before now : ℕ) (weighed : Result Choice Reason) : Type 0 where
  pub kept : RoseBy before now 0
  pub not_lost : IsNotLost weighed
