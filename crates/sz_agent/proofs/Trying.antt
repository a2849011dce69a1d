-- What the trial of an offer adds to the traffic, and what the network's count rose by.
use Rattle.std.specs.Prelude.{◌≡◌, ◌≢◌, ◌⊎◌, ℕ, List, ◌++◌, Some, Err}
use Rattle.std.proofs.Common.{ap, arith, inl, inr}
use Rattle.sz_spec.specs.Told.{WhereTold}
use Rattle.sz_base.specs.declared.evidence.Evidence.{Evidence}
use Rattle.sz_base.specs.declared.image.ImageFault.{ImageFault}
use Rattle.sz_artifacts.specs.declared.conveyed.onboarding.Onboarding.{Onboarding}
use Rattle.sz_evidence.specs.declared.reason.Reason.{Reason}
use Rattle.sz_evidence.specs.declared.reason.Reason.TheVariants as reason
use Rattle.sz_image.specs.Downloads.{CountsLost, Stops, StopsOver, TriesOver}
use Rattle.sz_image.specs.declared.choice.NoImage.{NoImage}
use Rattle.sz_image.specs.declared.choice.NoImage.TheVariants as no
use Rattle.sz_offer.specs.Offer.{Looker}
use Rattle.sz_offer.specs.Trial.{Downloaded, Network, Tried}
use Rattle.sz_offer.specs.declared.trial.Trial.TheVariants as trial
use Rattle.sz_agent.specs.Choice.{AddsMore}
use Rattle.sz_agent.specs.Lost.{WeighingLost}
use Rattle.sz_agent.proofs.Turning.{told_weaker}

-- ---- traffic

stops_adds : (hash : List ℕ) (space : ℕ) (uris : List (List ℕ)) (why : NoImage) (before now : Network)
    → Stops hash space uris why before.faults now.faults before.traffic now.traffic
    → WhereTold AddsMore before.traffic now.traffic
stops_adds hash space uris why before now stops =
    told_weaker (StopsOver hash space why stops.tried stops.others stops.faults) AddsMore
    (λ x y over. (over.0 ++ over.1, over.2)) before.traffic now.traffic stops.tries

downloaded_adds : (hash : List ℕ) (space : ℕ) (uris : List (List ℕ)) (size : ℕ) (before now : Network)
    → Downloaded hash space uris size before now → WhereTold AddsMore before.traffic now.traffic
downloaded_adds hash space uris size before now got =
    told_weaker (TriesOver hash space uris got.faults (Some got.body)) AddsMore (λ x y over. (over.0, over.1.adds))
    before.traffic now.traffic got.tries

came_adds : (hash : List ℕ) (space : ℕ) (uris : List (List ℕ)) (before now : Network)
    → Stops hash space uris no.DiskFault before.faults now.faults before.traffic now.traffic
    ⊎ ((size : ℕ) × Downloaded hash space uris size before now) → WhereTold AddsMore before.traffic now.traffic
came_adds hash space uris before now (inl stops) = stops_adds hash space uris no.DiskFault before now stops
came_adds hash space uris before now (inr got) = downloaded_adds hash space uris got.0 before now got.1

-- the disk failed in the trial
pub disk_adds : (looker : Looker) (onboarding : Onboarding) (evidence : Evidence) (before now : Network)
    → Tried looker onboarding evidence before now trial.DiskFault → WhereTold AddsMore before.traffic now.traffic
disk_adds looker onboarding evidence before now tried = came_adds _ _ _ before now tried.download

-- memory ran out in it
pub memory_adds : (looker : Looker) (onboarding : Onboarding) (evidence : Evidence) (before now : Network)
    → Tried looker onboarding evidence before now trial.OutOfMemory → WhereTold AddsMore before.traffic now.traffic
memory_adds looker onboarding evidence before now tried = stops_adds _ _ _ no.OutOfMemory before now tried.download

-- ---- the count

same_lost : (before now : Network) (found : Reason) → found ≢ reason.Lost → now ≡ before
    → WeighingLost before.faults now.faults (Err found)
same_lost before now found other same =
    let stood : now.faults ≡ before.faults = ap (λ (n : Network). n.faults) same in
    record { kept = omega (arith, stood); not_lost = other }

lost_downloads : (before now : Network) (faults : List ImageFault) → CountsLost faults before.faults now.faults
    → WeighingLost before.faults now.faults (Err (reason.NoImage faults))
lost_downloads before now faults lost =
    let rose = lost.rose in record { kept = omega (arith, rose); not_lost = λ same. cc }

-- an offer is turned down for another reason than that its visit was lost
pub refused_lost : (looker : Looker) (onboarding : Onboarding) (evidence : Evidence) (before now : Network)
    (found : Reason) → Tried looker onboarding evidence before now (trial.Refused found)
    → WeighingLost before.faults now.faults (Err found)
refused_lost looker onboarding evidence before now (reason.RecordTooLarge size) tried =
    same_lost before now (reason.RecordTooLarge size) (λ same. cc) tried.1
refused_lost looker onboarding evidence before now reason.NoImageHash tried =
    same_lost before now reason.NoImageHash (λ same. cc) tried.1
refused_lost looker onboarding evidence before now (reason.NoImage faults) tried =
    lost_downloads before now faults tried.download.lost
refused_lost looker onboarding evidence before now _ tried = absurd tried.download
